-- One processor more, of no more memory than those passed: one more of the last class, or one class more, and so the listing of them and
-- this one.
use Prim.Native.Nat.{ℕ, zero, suc, ◌+◌, ◌-◌, ◌≤◌, ◌<◌}
use Rattle.std.specs.Prelude.{◌≡◌, refl, Bool, ◌≢◌, eqb}
use Rattle.std.proofs.Math.Path.{sym, ap}
use Rattle.std.proofs.Common.{◌∙◌, subst, le-leb, eq-eqb, ne_eqb}
use mathlib.Core.List.{List, [], ◌∷◌, ◌++◌}
use Rattle.std.proofs.Math.Logic.{inl, inr}
use native.Mathlib.Omega.{arith}
use Rattle.std.proofs.Math.Decide.{dec_lt}
use Rattle.std.proofs.lemmas.Bool.{lt-leb}
use Rattle.std.proofs.Math.ListN.{length, get_or, length-append}
use Rattle.std.proofs.Math.Seq.{get_or_at}
use Rattle.sums.specs.Lists.{All, In, only}
use Rattle.sums.specs.Members.{All-map, All-in, in-All, in-at, at_in, in-append}
use Rattle.sums.specs.Places.{set-tabulate}
use Rattle.sums.specs.Totals.{total-append, total-cong}
use Rattle.order.specs.Order.{Order}
use Rattle.order.specs.Class.{classes, last_that_suffices, class_for, memory_of_class, processors_in}
use Rattle.order.proofs.ClassLaws.{
  classes-fall,
  memory-in-classes,
  class-in-memories,
  classes-few,
  processors_in-few,
  processors_in-none,
}
use Rattle.table.specs.FallingLaws.{distinct-behind, distinct-met}
use Rattle.table.specs.Passed.{listing, processors_of, last_class, with_class, OneMore}
use Rattle.table.specs.declared.LastClass.{LastClass}

-- a last class, if there is one, has this memory
abbrev pub LastHas : LastClass → ℕ → Type 0
LastHas c memory = (0 < c.number) × (c.memory ≡ memory)

-- all of falling memories suffice for the least
last-whole : (need : ℕ) (ms : List ℕ) → All (λ m. need ≤ m) ms → last_that_suffices need ms ≡ length ms
unfolding last_that_suffices
last-whole need [] h = refl
last-whole need (m ∷ ms) h = rw (le-leb need m h.0) (ap suc (last-whole need ms h.1))

-- a memory that does not suffice adds nothing behind them
last-behind : (need m : ℕ) (ms : List ℕ) → m < need → last_that_suffices need (ms ++ (m ∷ [])) ≡ last_that_suffices need ms
unfolding last_that_suffices
last-behind need m [] l = rw (lt-leb need m l) refl
last-behind need m (y ∷ ms) l = rw (last-behind need m ms l) refl

-- one more behind a list changes no other place
get_or-other : (xs : List ℕ) (x i : ℕ) → i ≢ length xs → get_or (xs ++ (x ∷ [])) i 0 ≡ get_or xs i 0
get_or-other [] x zero ne = absurd (ne refl)
get_or-other [] x (suc i) ne = refl
get_or-other (y ∷ xs) x zero ne = refl
get_or-other (y ∷ xs) x (suc i) ne = get_or-other xs x i (λ e. ne (ap suc e))

-- the memory of a class, at its place
memory-at : (o : Order) (k : ℕ) → 0 < k → memory_of_class o k ≡ get_or (classes o) (k - 1) 0
unfolding memory_of_class
memory-at o zero l = absurd (omega arith)
memory-at o (suc k) l = ap (λ (i : ℕ). get_or (classes o) i 0) (omega arith)

-- fewer than sixteen processors passed have fewer classes, and fewer in the last
pub last-small : (ms : List ℕ) → length ms < 16 →
    ((last_class (processors_of ms)).number < 16) × ((last_class (processors_of ms)).procs < 16)
last-small ms few =
    (omega (arith, classes-few (processors_of ms)), omega (arith, processors_in-few (processors_of ms) (length (classes (processors_of ms)))))

module _ (ms : List ℕ) (x : ℕ) (least : All (λ m. x ≤ m) ms) where
  abbrev before : Order
  before = processors_of ms

  abbrev after : Order
  after = processors_of (ms ++ (x ∷ []))

  -- the next processor is in the last class then, and no other changes its class
  record Joins (class : ℕ) : Type 0 where
    pub length-is : length (classes after) ≡ class
    pub some : 0 < class
    pub its-memory : get_or (classes after) (class - 1) 0 ≡ x
    pub others : (i : ℕ) → i ≢ class - 1 → get_or (classes after) i 0 ≡ get_or (classes before) i 0
    pub stay : All (λ m. class_for after m ≡ class_for before m) ms

  -- one processor more in that class, and no other
  added : (class : ℕ) → Joins class → (i : ℕ) → processors_in after (suc i) ≡ processors_in before (suc i) + only (eqb class (suc i)) 1
  unfolding classes class_for processors_in
  added class j i =
      let its : class_for after x ≡ class
      = last-whole x (classes after) (in-All _ (classes after) (λ m h. suffices m (class-in-memories after m h))) ∙ j.length-is in
      total-append ms (x ∷ []) (λ m. only (eqb (class_for after m) (suc i)) 1)
      ∙ omega (
        arith,
        total-cong ms (λ m. only (eqb (class_for after m) (suc i)) 1) (λ m. only (eqb (class_for before m) (suc i)) 1)
            (All-map _ _ ms (λ m e. ap (λ (c : ℕ). only (eqb c (suc i)) 1) e) j.stay),
        ap (λ (c : ℕ). only (eqb c (suc i)) 1) its,
      )
    where
      suffices : (m : ℕ) → In m (ms ++ (x ∷ [])) → x ≤ m
      suffices m h = elim (in-append ms (x ∷ []) m h) [ inl k ↦ All-in _ ms least m k | inr k ↦ itself m k ]
        where
          itself : (m : ℕ) → In m (x ∷ []) → x ≤ m
          itself m (inl e) = omega arith
          itself m (inr k) = absurd k

  -- so it is the last class, with one processor more, and the listing has it at its place
  joined : (class procs : ℕ) → Joins class → procs ≡ processors_in before class + 1 →
      let next : LastClass = record { number = class; memory = x; procs = procs } in
      (next ≡ last_class after) × (with_class (listing before) next ≡ listing after)
  joined class procs j e =
      let at : class ≡ suc (class - 1) = omega (arith, j.some) in
      let more : processors_in after (suc (class - 1)) ≡ procs = added class j (class - 1)
      ∙ omega (arith, e, ap (processors_in before) at, ap (λ (b : Bool). only b 1) (eq-eqb class (suc (class - 1)) at)) in (
        cc (
          sym j.length-is,
          sym (ap (memory_of_class after) j.length-is ∙ memory-at after class j.some ∙ j.its-memory),
          sym (ap (processors_in after) (j.length-is ∙ at) ∙ more),
        ),
        cc (
          sym j.length-is,
          set-tabulate 16 (λ i. get_or (classes before) i 0) (λ i. get_or (classes after) i 0) (class - 1) x j.its-memory
              (λ k l ne. sym (j.others k ne)),
          set-tabulate 16 (λ i. processors_in before (suc i)) (λ i. processors_in after (suc i)) (class - 1) procs more
              (λ k l ne. sym (added class j k
              ∙ ap (λ (b : Bool). processors_in before (suc k) + only b 1) (ne_eqb class (suc k) (λ e. ne (omega arith))) ∙ omega arith)),
        ),
      )

  -- the last class has its memory exactly if some processor passed has
  last-met : LastHas (last_class before) x → In x ms
  last-met l =
      class-in-memories before x
      (subst (λ (m : ℕ). In m (classes before)) (sym (memory-at before (length (classes before)) l.0) ∙ l.1)
      (at_in (classes before) 0 (length (classes before) - 1) (omega (arith, l.0))))

  met-last : In x ms → LastHas (last_class before) x
  met-last i =
      let p = in-at (classes before) 0 x (memory-in-classes before x i) in
      elim (dec_lt (suc p.0) (length (classes before))) [
        | no l ↦
            let some : 0 < length (classes before) = omega (arith, p.1) in
            let e : length (classes before) - 1 ≡ p.0 = omega (arith, p.1) in
            (some, memory-at before (length (classes before)) some ∙ ap (λ (k : ℕ). get_or (classes before) k 0) e ∙ p.2)
        | yes l ↦
            let m = All-in _ ms least _ (class-in-memories before _ (at_in (classes before) 0 (suc p.0) l)) in
            absurd (omega (arith, p.2, m, classes-fall before p.0 (suc p.0) (omega arith) l))
      ]

  same_class : In x ms → Joins (length (classes before))
  unfolding classes class_for
  same_class i =
      let e = distinct-met x ms i in
      let l = met-last i in
      record {
        length-is = ap length e;
        some = l.0;
        its-memory = ap (λ (cs : List ℕ). get_or cs (length (classes before) - 1) 0) e
            ∙ sym (memory-at before (length (classes before)) l.0) ∙ l.1;
        others = λ i _. ap (λ (cs : List ℕ). get_or cs i 0) e;
        stay = in-All _ ms (λ m _. ap (last_that_suffices m) e);
      }

  new-class : ¬ In x ms → Joins (suc (length (classes before)))
  unfolding classes class_for
  new-class out =
      let above = in-All (λ m. x < m) ms (λ m i. over m i (All-in _ ms least m i)) in
      let e = distinct-behind x ms above in
      let n = length-append (classes before) (x ∷ []) in
      let back : suc (length (classes before)) - 1 ≡ length (classes before) = omega arith in
      record {
        length-is = ap length e ∙ n ∙ omega arith;
        some = omega arith;
        its-memory = ap (λ (k : ℕ). get_or (classes after) k 0) back
            ∙ ap (λ (cs : List ℕ). get_or cs (length (classes before)) 0) e
            ∙ get_or_at (classes before) x [] 0 (length (classes before)) refl;
        others = λ i ne. ap (λ (cs : List ℕ). get_or cs i 0) e ∙ get_or-other (classes before) x i (λ q. ne (q ∙ sym back));
        stay = All-map _ _ ms (λ m l. ap (last_that_suffices m) e ∙ last-behind m x (classes before) l) above;
      }
    where
      over : (m : ℕ) → In m ms → x ≤ m → x < m
      over m i l =
          elim (dec_lt x m) [
            | yes h ↦ h
            | no h ↦ let e : m ≡ x = omega arith in absurd (out (subst (λ (y : ℕ). In y ms) e i))
          ]

-- one processor more of the last class
pub one_more : (last : LastClass) (memory : ℕ) → LastHas last memory →
    OneMore last memory (record { number = last.number; memory = memory; procs = last.procs + 1 })
one_more last memory has ms least e =
    subst (λ (c : LastClass). LastHas c memory →
    let next : LastClass = record { number = c.number; memory = memory; procs = c.procs + 1 } in
    (next ≡ last_class (processors_of (ms ++ (memory ∷ []))))
    × (with_class (listing (processors_of ms)) next ≡ listing (processors_of (ms ++ (memory ∷ []))))) (sym e)
    (λ h. joined ms memory least _ _ (same_class ms memory least (last-met ms memory least h)) refl) has

-- one class more, of one processor
pub class-more : (last : LastClass) (memory class : ℕ) → ¬ LastHas last memory → class ≡ suc last.number →
    OneMore last memory (record { number = class; memory = memory; procs = 1 })
class-more last memory class out is ms least e =
    joined ms memory least class 1
    (subst (Joins ms memory least) (sym class-is)
    (new-class ms memory least (λ i. out (subst (λ (c : LastClass). LastHas c memory) (sym e) (met-last ms memory least i)))))
    (omega (arith, processors_in-none (processors_of ms), ap (processors_in (processors_of ms)) class-is))
  where
    class-is : class ≡ suc (length (classes (processors_of ms)))
    class-is = is ∙ ap (λ (c : LastClass). suc c.number) e
