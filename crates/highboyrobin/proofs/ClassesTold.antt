-- What hbr_classes leaves behind: pairs stored one after the other, and the classes that they tell.
use Rattle.std.specs.Prelude.{Result, Ok}
use Prim.Native.Nat.{ℕ, zero, suc, ◌+◌, ◌*◌, ◌≤◌, ◌<◌}
use mathlib.Core.Path.{◌≡◌, refl, sym, ap, ◌∙◌, subst}
use mathlib.Core.List.{List, [], ◌∷◌, ◌++◌}
use native.Mathlib.Numerals.{add-one}
use native.Mathlib.Omega.{arith}
use lib.IntN.{ℤ, pos}
use lib.ListN.{length, get_or, set, take, drop, length-append, length-drop}
use lib.Seq.{sets-eq, take_at, drop-append-add, drop-drop}
use Rattle.sums.specs.Places.{get_d_tabulate}
use Rattle.order.specs.Order.{Order, processor_count}
use Rattle.order.specs.Class.{classes, memory_of_class, processors_in}
use Rattle.order.proofs.ClassLaws.{classes-few}
use Rattle.order.specs.Refusals.{Verdict, accepted, refused, judge, answer_by, left_by}
use Rattle.order.proofs.RefusalLaws.{accepted-iff}
use Rattle.order.proofs.StructLaws.{few-processors}
use Rattle.order.specs.Table.{order_of, refusal_told}
use Rattle.order.specs.declared.Order.{Order as OrderTable}
use Rattle.order.proofs.TableLaws.{refused-told}
use Rattle.order.specs.declared.Refusal.{Refusal}
use Rattle.order_file.specs.File.{order_in, read_rows}
use Rattle.order_file.specs.Told.{read_told}
use Rattle.table.specs.ClassRows.{few-listed}
use Rattle.table.specs.Passed.{listing}
use Rattle.table.specs.declared.Listing.{Listing}
use Rattle.highboyrobin.specs.ClassCalls.{pairs_to, class_count, class_pairs}
use Rattle.highboyrobin.specs.ClassCallLaws.{pairs-length}
use Rattle.highboyrobin.specs.Results.{result_of}
use Rattle.highboyrobin.proofs.Calling.{read_accepted}

module _ (f g : ℕ → ℕ) where
  pub none-paired : (s : List ℕ) → s ≡ pairs_to f g 0 ++ drop (2 * 0) s
  unfolding pairs_to
  none-paired s = refl

  pub paired-length : (s out : List ℕ) (k : ℕ) → out ≡ pairs_to f g k ++ drop (2 * k) s → 2 * k ≤ length s → length out ≡ length s
  paired-length s out k e h =
      ap length e ∙ length-append (pairs_to f g k) (drop (2 * k) s) ∙ omega (arith, pairs-length f g k, length-drop (2 * k) s)

  -- the next pair is stored behind the first k
  pub next-paired : (s out : List ℕ) (k : ℕ) → out ≡ pairs_to f g k ++ drop (2 * k) s → 2 * k + 2 ≤ length s →
      set (set out (2 * k) (f k)) (2 * k + 1) (g k) ≡ pairs_to f g (k + 1) ++ drop (2 * (k + 1)) s
  unfolding pairs_to
  next-paired s out k e h =
      let size = pairs-length f g k in
      let front : take (2 * k) out ≡ pairs_to f g k = ap (take (2 * k)) e ∙ take_at (pairs_to f g k) (drop (2 * k) s) (2 * k) size in
      let next : 2 * k + 2 ≡ 2 * (k + 1) = omega arith in
      let behind : drop (2 * k + 2) out ≡ drop (2 * (k + 1)) s
      = ap (drop (2 * k + 2)) e
      ∙ ap (λ (m : ℕ). drop (m + 2) (pairs_to f g k ++ drop (2 * k) s)) (sym size)
      ∙ drop-append-add (pairs_to f g k) (drop (2 * k) s) 2
      ∙ drop-drop 2 (2 * k) s
      ∙ ap (λ (m : ℕ). drop m s) next in
      let stored : set (set out (2 * k) (f k)) (2 * k + 1) (g k) ≡ (take (2 * k) out ++ (f k ∷ g k ∷ [])) ++ drop (2 * k + 2) out
      = rw (add-one (2 * k)) (sets-eq (f k ∷ g k ∷ []) out (2 * k) (omega (arith, paired-length s out k e (omega arith)))) in
      stored ∙ rw (front, behind, add-one k) refl

-- pairs are the same where their parts are
pairs-same : (f g f' g' : ℕ → ℕ) (k : ℕ) → ((i : ℕ) → i < k → f i ≡ f' i) → ((i : ℕ) → i < k → g i ≡ g' i) →
    pairs_to f g k ≡ pairs_to f' g' k
unfolding pairs_to
pairs-same f g f' g' zero h j = refl
pairs-same f g f' g' (suc k) h j =
    rw (pairs-same f g f' g' k (λ i l. h i (omega arith)) (λ i l. j i (omega arith)), h k (omega arith), j k (omega arith)) refl

-- a listing of an order has its classes
classes-paired : (o : Order) → processor_count o ≤ 16 → (l : Listing) → l ≡ listing o →
    pairs_to (λ i. get_or l.memories i 0) (λ i. get_or l.procs i 0) l.count ≡ class_pairs o
unfolding memory_of_class
classes-paired o few l e =
    ap (λ (l : Listing). pairs_to (λ i. get_or l.memories i 0) (λ i. get_or l.procs i 0) l.count) e
    ∙ pairs-same _ _ _ _ (class_count o)
    (λ i b. get_d_tabulate 16 (λ i. get_or (classes o) i 0) 0 i (omega (arith, classes-few o)))
    (λ i b. get_d_tabulate 16 (λ i. processors_in o (suc i)) 0 i (omega (arith, classes-few o)))

-- an order that was read has few processors, and few classes are listed of it
module _ (f : List ℕ) (r : Result OrderTable Refusal) (e : read_told r ≡ answer_by (judge (read_rows f)) (order_in f)) (t : OrderTable)
    (is : r ≡ Ok t) where
  pub read_few : t.processors ≤ 16
  read_few = few-processors t (read_accepted f r e t is)

  pub listed_few : (l : Listing) → l ≡ listing (order_of t) → l.count ≤ 16
  listed_few = few-listed (order_of t) ((accepted-iff (order_of t)).0 (read_accepted f r e t is)).few-processors

-- result, list and answer, by the verdict
module _ (v : Verdict) (o : Order) (list : List ℕ) (entry : List ℤ) where
  abbrev pub ClassesEnded : ℕ → List ℕ → List ℤ → Type 0
  ClassesEnded result list' exit =
      (result ≡ result_of v)
      × ((list' ≡ left_by v (class_pairs o) list) × (exit ≡ left_by v (pos (class_count o) ∷ []) entry))

  pub classes-refused : (number job : ℕ) → v ≡ refused number job → ClassesEnded (number + 256 * job) list entry
  classes-refused number job e = rw e (refl, (refl, refl))

  pub classes-why : (why : Refusal) → v ≡ refusal_told why → (result : ℕ) → result ≡ result_of (refusal_told why) →
      ClassesEnded result list entry
  classes-why why e result r =
      let t = refused-told why in
      subst (λ (k : ℕ). ClassesEnded k list entry) (sym (r ∙ ap result_of t.2)) (classes-refused t.0 t.1 (e ∙ t.2))

  pub classes-done : v ≡ accepted → processor_count o ≤ 16 → (l : Listing) → l ≡ listing o → (list' : List ℕ) (exit : List ℤ) →
      list' ≡ pairs_to (λ i. get_or l.memories i 0) (λ i. get_or l.procs i 0) l.count ++ drop (2 * l.count) list →
      exit ≡ pos l.count ∷ drop 1 entry → ClassesEnded 0 list' exit
  classes-done e few l is list' exit p a =
      let count : l.count ≡ class_count o = ap (λ (l : Listing). l.count) is in
      let size : 2 * l.count ≡ length (class_pairs o) = ap (λ (n : ℕ). 2 * n) count ∙ sym (pairs-length _ _ (class_count o)) in
      rw e (
        refl,
        (
          p ∙ ap (λ (xs : List ℕ). xs ++ drop (2 * l.count) list) (classes-paired o few l is)
              ∙ ap (λ (n : ℕ). class_pairs o ++ drop n list) size,
          a ∙ ap (λ (n : ℕ). pos n ∷ drop 1 entry) count,
        ),
      )
