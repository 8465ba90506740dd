-- Bytes after some stores, as registers. A store is looked at as a byte for each address, so that what an address of its own holds is
-- computed, and what is stored or spare elsewhere stays by one law.
use Rattle.std.specs.Prelude.{ℕ, ◌+◌, ◌-◌, ◌*◌, ◌/◌, ◌%◌, ◌≤◌, ◌<◌, ◌≡◌, refl, Bool, true, false, cond, not, ◌&&◌, ◌||◌, List, leb, ltb, eqb, ℤ, pos, negsuc, length, get_or, set, drop}
use Rattle.std.proofs.Common.{sym, ap, subst, ◌∙◌, arith, eqb-true, eq-eqb, ne_eqb, ltb-false, length-set, get_or-set_same, get_or-set_other, drop-set-lt}
use Rattle.std.proofs.Math.Path.{fun_ext}
use Rattle.std.proofs.Math.Nat.{div-div-eq-div-mul}
use Rattle.std.proofs.lemmas.Bool.{eqb-false}
use Rattle.std.specs.Int.Signed.{mag}
use Rattle.order_file.specs.Bytes.{number4, signed, pattern}
use Rattle.order_file.specs.ByteLaws.{four_bytes, signed-pattern, pattern-small}
use Rattle.plan.specs.Plan.{Row}
use Rattle.registers.specs.Registers.{
  Registers,
  place_of,
  is_set,
  bit,
  begun,
  refused_with,
  acknowledged,
  allowing,
  storing,
}
use Rattle.registers.specs.Memory.{block_of, stored_by, spare_by, Moved, with_flags, with_allowed, lateness_put, finished_at, concluded}
use Rattle.registers.specs.declared.Flags.{Flags}
use Rattle.std.specs.Prelude.{Result, Ok, Err}
use Rattle.registers.specs.declared.Place.{Place}
use Rattle.registers.specs.declared.Place.TheVariants.{Stored}

-- registers are equal that have equal fields
pub alike : (s t : Registers) → s.done ≡ t.done → s.refused ≡ t.refused → s.interrupt ≡ t.interrupt → s.allowed ≡ t.allowed →
    s.number ≡ t.number → s.lateness ≡ t.lateness → s.stored ≡ t.stored → s.rows ≡ t.rows → s ≡ t
alike s t a b c d e f g h = λ i. record {
  done = a i;
  refused = b i;
  interrupt = c i;
  allowed = d i;
  number = e i;
  lateness = f i;
  stored = g i;
  rows = h i;
}

-- v at address a, and at every other address what was there
abbrev put : (ℕ → ℕ) → (a v : ℕ) → ℕ → ℕ
put f a v k = cond (eqb k a) v (f k)

-- block_of and spare_of of a byte for each address
abbrev stored_in : (ℕ → ℕ) → ℕ → ℕ
stored_in f a = stored_by (place_of a) (f a)

abbrev block_in : (ℕ → ℕ) → List Row → Registers
block_in f held = record {
  done = is_set (f 1);
  refused = is_set (f 1 / 2);
  interrupt = is_set (f 1 / 4);
  allowed = is_set (f 3);
  number = f 2;
  lateness = signed (f 12 + 256 * f 13 + 65536 * f 14 + 16777216 * f 15);
  stored = stored_in f;
  rows = held;
}

abbrev spare_in : (ℕ → ℕ) → ℕ → ℕ
spare_in f a = cond (leb a 255) (spare_by (place_of a) (f a)) 0

-- the bytes ys show g, and beyond 256 they are xs
record Shows (xs ys : List ℕ) (g : ℕ → ℕ) : Type 0 where
  long : 256 ≤ length ys
  view : (k : ℕ) → get_or ys k 0 ≡ g k
  beyond : drop 256 ys ≡ drop 256 xs

shows : (xs : List ℕ) → 256 ≤ length xs → Shows xs xs (λ k. get_or xs k 0)
shows xs h = record { long = h; view = λ k. refl; beyond = refl }

shows-set : {xs ys : List ℕ} {g : ℕ → ℕ} (a v : ℕ) → Shows xs ys g → a < 256 → Shows xs (set ys a v) (put g a v)
shows-set {xs} {ys} {g} a v s h = record {
  long = omega (arith, length-set ys a v, s.long);
  view = λ k. at k (eqb k a) refl;
  beyond = drop-set-lt 256 ys a v h ∙ s.beyond;
}
  where
    at : (k : ℕ) (b : Bool) → eqb k a ≡ b → get_or (set ys a v) k 0 ≡ cond b v (g k)
    at k true e = rw (eqb-true k a e) (get_or-set_same ys a v 0 (omega (arith, s.long)))
    at k false e = get_or-set_other ys a k v 0 (eqb-false k a e) ∙ s.view k

abbrev late : (ℕ → ℕ) → ℕ → ℕ → ℕ
late g n = put (put (put (put g 12 (n % 256)) 13 (n / 256 % 256)) 14 (n / 65536 % 256)) 15 (n / 16777216 % 256)

shows-lateness : {xs ys : List ℕ} {g : ℕ → ℕ} (n : ℕ) → Shows xs ys g → Shows xs (lateness_put ys n) (late g n)
shows-lateness n s =
    shows-set 15 _ (shows-set 14 _ (shows-set 13 _ (shows-set 12 _ s (omega arith)) (omega arith)) (omega arith)) (omega arith)

-- a store that changes nothing of what is told of its own address changes nothing of what is told of any
same-put : (tell : ℕ → ℕ → ℕ) (f : ℕ → ℕ) (a v : ℕ) → tell a v ≡ tell a (f a) → (k : ℕ) → tell k (put f a v k) ≡ tell k (f k)
same-put tell f a v e k = go (eqb k a) refl
  where
    go : (b : Bool) → eqb k a ≡ b → tell k (cond b v (f k)) ≡ tell k (f k)
    go true h = rw (eqb-true k a h) e
    go false h = refl

stored-put : (f : ℕ → ℕ) (a v : ℕ) → stored_by (place_of a) v ≡ stored_by (place_of a) (f a) → stored_in (put f a v) ≡ stored_in f
stored-put f a v e = fun_ext (same-put (λ a v. stored_by (place_of a) v) f a v e)

spare-put : (f : ℕ → ℕ) (a v : ℕ) → spare_by (place_of a) v ≡ spare_by (place_of a) (f a) → (k : ℕ) → spare_in (put f a v) k ≡ spare_in f k
spare-put f a v e k = ap (λ (x : ℕ). cond (leb k 255) x 0) (same-put (λ a v. spare_by (place_of a) v) f a v e k)

module _ (g : ℕ → ℕ) (n : ℕ) where
  abbrev g₁ : ℕ → ℕ
  g₁ = put g 12 (n % 256)

  abbrev g₂ : ℕ → ℕ
  g₂ = put g₁ 13 (n / 256 % 256)

  abbrev g₃ : ℕ → ℕ
  g₃ = put g₂ 14 (n / 65536 % 256)

  late-stored : stored_in (late g n) ≡ stored_in g
  late-stored =
      stored-put g₃ 15 (n / 16777216 % 256) refl
      ∙ stored-put g₂ 14 (n / 65536 % 256) refl
      ∙ stored-put g₁ 13 (n / 256 % 256) refl
      ∙ stored-put g 12 (n % 256) refl

  late-spare : (k : ℕ) → spare_in (late g n) k ≡ spare_in g k
  late-spare k =
      spare-put g₃ 15 (n / 16777216 % 256) refl k
      ∙ spare-put g₂ 14 (n / 65536 % 256) refl k
      ∙ spare-put g₁ 13 (n / 256 % 256) refl k
      ∙ spare-put g 12 (n % 256) refl k

-- what holds of the bytes as shown holds of them
record MovedIn (F : Registers → Registers) (f g : ℕ → ℕ) : Type 0 where
  block : (held : List Row) → block_in g (F (block_in f held)).rows ≡ F (block_in f held)
  spare : (k : ℕ) → spare_in g k ≡ spare_in f k

moved : (F : Registers → Registers) (xs ys : List ℕ) (g : ℕ → ℕ) → Shows xs ys g → MovedIn F (λ k. get_or xs k 0) g → Moved F xs ys
moved F xs ys g s m = record {
  block = λ held. ap (λ (h : ℕ → ℕ). block_in h (F (block_of xs held)).rows) (fun_ext s.view) ∙ m.block held;
  spare = λ k. ap (λ (x : ℕ). cond (leb k 255) (spare_by (place_of k) x) 0) (s.view k) ∙ m.spare k;
  beyond = s.beyond;
}

-- bits in numbers
set_is : (n : ℕ) (b : Bool) → n % 2 ≡ bit b → is_set n ≡ b
set_is n true e = eq-eqb (n % 2) 1 e
set_is n false e = ne_eqb (n % 2) 1 (λ o. omega arith)

pub bit-set : (n : ℕ) → bit (is_set n) ≡ n % 2
bit-set n = go (eqb (n % 2) 1) refl
  where
    go : (b : Bool) → eqb (n % 2) 1 ≡ b → bit b ≡ n % 2
    go true e = sym (eqb-true (n % 2) 1 e)
    go false e = let z = eqb-false (n % 2) 1 e in omega arith

-- what byte 1 reads
pub flag-byte : (x : ℕ) → x % 8 ≡ bit (is_set x) + 2 * bit (is_set (x / 2)) + 4 * bit (is_set (x / 4))
flag-byte x =
    omega (arith, bit-set x, bit-set (x / 2), bit-set (x / 4), div-div-eq-div-mul x 2 2, div-div-eq-div-mul x 4 2)

bit-small : (b : Bool) → bit b ≤ 1
bit-small true = omega arith
bit-small false = omega arith

-- the flags of byte 1 with some flags are these
module _ (x d r i : ℕ) (hd : d ≤ 1) (hr : r ≤ 1) (hi : i ≤ 1) where
  abbrev made : ℕ
  made = x / 8 * 8 + d + 2 * r + 4 * i

  made-done : made % 2 ≡ d
  made-done = omega arith

  made-refused : made / 2 % 2 ≡ r
  made-refused = omega arith

  made-interrupt : made / 4 % 2 ≡ i
  made-interrupt = omega arith

  made-spare : made / 8 ≡ x / 8
  made-spare = omega arith

module _ (x : ℕ) (w : Flags) where
  with-done : is_set (with_flags x w) ≡ w.done
  with-done =
      set_is _ _ (made-done x (bit w.done) (bit w.refused) (bit w.interrupt) (bit-small w.done) (bit-small w.refused)
      (bit-small w.interrupt))

  with-refused : is_set (with_flags x w / 2) ≡ w.refused
  with-refused =
      set_is _ _ (made-refused x (bit w.done) (bit w.refused) (bit w.interrupt) (bit-small w.done) (bit-small w.refused)
      (bit-small w.interrupt))

  with-interrupt : is_set (with_flags x w / 4) ≡ w.interrupt
  with-interrupt =
      set_is _ _ (made-interrupt x (bit w.done) (bit w.refused) (bit w.interrupt) (bit-small w.done) (bit-small w.refused)
      (bit-small w.interrupt))

  with-spare : with_flags x w / 8 ≡ x / 8
  with-spare =
      made-spare x (bit w.done) (bit w.refused) (bit w.interrupt) (bit-small w.done) (bit-small w.refused)
      (bit-small w.interrupt)

-- byte 3
allowed-is : (x v : ℕ) → is_set (with_allowed x v) ≡ is_set v
allowed-is x v = let e : with_allowed x v % 2 ≡ v % 2 = omega arith in ap (λ (n : ℕ). eqb n 1) e

allowed-spare : (x v : ℕ) → with_allowed x v / 2 ≡ x / 2
allowed-spare x v = omega arith

-- a number of 32 bits in two's complement is its own pattern
pub pattern-signed : (n : ℕ) → n < 4294967296 → pattern (signed n) ≡ n
pattern-signed n h = go (ltb n 2147483648) refl
  where
    go : (b : Bool) → ltb n 2147483648 ≡ b → pattern (cond b (pos n) (negsuc (4294967295 - n))) ≡ n
    go true e = refl
    go false e = omega (arith, ltb-false n 2147483648 e)

-- each of this crate's functions that stores into the bytes
module _ (xs : List ℕ) (long : 256 ≤ length xs) where
  abbrev f : ℕ → ℕ
  f k = get_or xs k 0

  -- byte 1 gets these flags
  module _ (w : Flags) (v : ℕ) (e : v ≡ with_flags (f 1) w) where
    abbrev flagged : ℕ → ℕ
    flagged = put f 1 v

    flagged-shown : Shows xs (set xs 1 v) flagged
    flagged-shown = shows-set 1 v (shows xs long) (omega arith)

    flagged-stored : stored_in flagged ≡ stored_in f
    flagged-stored = stored-put f 1 v refl

    flagged-spare : (k : ℕ) → spare_in flagged k ≡ spare_in f k
    flagged-spare = spare-put f 1 v (ap (λ (n : ℕ). n / 8) e ∙ with-spare (f 1) w)

    done-is : is_set v ≡ w.done
    done-is = ap is_set e ∙ with-done (f 1) w

    refused-is : is_set (v / 2) ≡ w.refused
    refused-is = ap (λ (n : ℕ). is_set (n / 2)) e ∙ with-refused (f 1) w

    interrupt-is : is_set (v / 4) ≡ w.interrupt
    interrupt-is = ap (λ (n : ℕ). is_set (n / 4)) e ∙ with-interrupt (f 1) w

    pub begin-moved : w.done ≡ false → w.refused ≡ false → w.interrupt ≡ is_set (f 1 / 4) → (ys : List ℕ) →
        ys ≡ lateness_put (set (set xs 1 v) 2 0) 0 → Moved begun xs ys
    begin-moved d r i ys x =
        subst (Moved begun xs) (sym x)
        (moved begun xs _ _ (shows-lateness 0 (shows-set 2 0 flagged-shown (omega arith)))
        (record {
          block = λ held. alike _ _ (done-is ∙ d) (refused-is ∙ r) (interrupt-is ∙ i) refl refl refl
              (late-stored (put flagged 2 0) 0 ∙ stored-put flagged 2 0 refl ∙ flagged-stored) refl;
          spare = λ k. late-spare (put flagged 2 0) 0 k ∙ spare-put flagged 2 0 refl k ∙ flagged-spare k;
        }))

    pub finish-moved : w.done ≡ true → w.refused ≡ is_set (f 1 / 2) → w.interrupt ≡ (is_set (f 1 / 4) || is_set (f 3)) → (z : ℤ) →
        mag z < 2147483648 → (ys : List ℕ) → ys ≡ lateness_put (set xs 1 v) (pattern z) → Moved (finished_at z) xs ys
    finish-moved d r i z small ys x =
        subst (Moved (finished_at z) xs) (sym x)
        (moved (finished_at z) xs _ _ (shows-lateness (pattern z) flagged-shown)
        (record {
          block = λ held. alike _ _ (done-is ∙ d) (refused-is ∙ r) (interrupt-is ∙ i) refl refl
              (ap signed (four_bytes (pattern z) (pattern-small z small)) ∙ signed-pattern z small)
              (late-stored flagged (pattern z) ∙ flagged-stored) refl;
          spare = λ k. late-spare flagged (pattern z) k ∙ flagged-spare k;
        }))

    pub refuse-moved : w.done ≡ is_set (f 1) → w.refused ≡ true → w.interrupt ≡ (is_set (f 1 / 4) || is_set (f 3)) → (n : ℕ) →
        Moved (refused_with n) xs (set (set xs 1 v) 2 n)
    refuse-moved d r i n =
        moved (refused_with n) xs _ _ (shows-set 2 n flagged-shown (omega arith))
        (record {
          block = λ held. alike _ _ (done-is ∙ d) (refused-is ∙ r) (interrupt-is ∙ i) refl refl refl
              (stored-put flagged 2 n refl ∙ flagged-stored) refl;
          spare = λ k. spare-put flagged 2 n refl k ∙ flagged-spare k;
        })

    pub acknowledge-moved : (written : ℕ) → w.done ≡ (is_set (f 1) && not (is_set written)) →
        w.refused ≡ (is_set (f 1 / 2) && not (is_set (written / 2))) →
        w.interrupt ≡ (is_set (f 1 / 4) && not (is_set (written / 4))) → Moved (acknowledged written) xs (set xs 1 v)
    acknowledge-moved written d r i =
        moved (acknowledged written) xs _ _ flagged-shown
        (record {
          block = λ held. alike _ _ (done-is ∙ d) (refused-is ∙ r) (interrupt-is ∙ i) refl refl refl flagged-stored refl;
          spare = flagged-spare;
        })

  pub allow-moved : (written v : ℕ) → v ≡ with_allowed (f 3) written → Moved (allowing written) xs (set xs 3 v)
  allow-moved written v e =
      subst (λ (v : ℕ). Moved (allowing written) xs (set xs 3 v)) (sym e)
      (moved (allowing written) xs _ _ (shows-set 3 _ (shows xs long) (omega arith))
      (record {
        block = λ held. alike _ _ refl refl refl (allowed-is (f 3) written) refl refl (stored-put f 3 _ refl) refl;
        spare = spare-put f 3 _ (allowed-spare (f 3) written);
      }))

  -- a store at an address that keeps what is written
  module _ (a v : ℕ) (low : a < 256) (e : place_of a ≡ Stored) where
    abbrev is_stored : Place → Bool
    is_stored p = eqb (stored_by p 1) 1

    at_other : (i : ℕ) → is_stored (place_of i) ≡ false → put f a v i ≡ f i
    at_other i other = go (eqb i a) refl
      where
        go : (b : Bool) → eqb i a ≡ b → cond b v (f i) ≡ f i
        go true h =
            let z : ◌≡◌ {A = Bool} true false = sym (ap is_stored e) ∙ ap (λ (k : ℕ). is_stored (place_of k)) (sym
            (eqb-true i a h)) ∙ other in
            let y : ◌≡◌ {A = ℕ} 1 0 = ap bit z in absurd (omega arith)
        go false h = refl

    kept : stored_in (put f a v) ≡ (λ k. cond (eqb k a) v (stored_in f k))
    kept = fun_ext (λ k. go k (eqb k a) refl)
      where
        go : (k : ℕ) (b : Bool) → eqb k a ≡ b → stored_by (place_of k) (cond b v (f k)) ≡ cond b v (stored_in f k)
        go k true h = rw (eqb-true k a h, e) refl
        go k false h = refl

    lateness-stays : put f a v 12 + 256 * put f a v 13 + 65536 * put f a v 14 + 16777216 * put f a v 15 ≡ number4 xs 12
    lateness-stays = rw (at_other 12 refl, at_other 13 refl, at_other 14 refl, at_other 15 refl) refl

    pub store-moved : Moved (storing a v) xs (set xs a v)
    store-moved =
        moved (storing a v) xs _ _ (shows-set a v (shows xs long) low)
        (record {
          block = λ held. alike _ _
              (ap is_set (at_other 1 refl))
              (ap (λ (x : ℕ). is_set (x / 2)) (at_other 1 refl))
              (ap (λ (x : ℕ). is_set (x / 4)) (at_other 1 refl))
              (ap is_set (at_other 3 refl))
              (at_other 2 refl)
              (ap signed lateness-stays)
              kept
              refl;
          spare = spare-put f a v (rw e refl);
        })

-- a command is over, by how it ended
module _ (xs ys : List ℕ) (x : Result ℤ ℕ) where
  pub concluded-done : (z told : ℤ) → x ≡ Ok z → told ≡ z → Moved (finished_at told) xs ys → Moved (concluded x) xs ys
  concluded-done z told e same m =
      subst (λ (x : Result ℤ ℕ). Moved (concluded x) xs ys) (sym e) (subst (λ (z : ℤ). Moved (finished_at z) xs ys) same m)

  pub concluded-refused : (n : ℕ) → x ≡ Err n → Moved (refused_with n) xs ys → Moved (concluded x) xs ys
  concluded-refused n e m = subst (λ (x : Result ℤ ℕ). Moved (concluded x) xs ys) (sym e) m
