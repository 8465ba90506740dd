-- Laws of decimal numbers and of text put into a buffer.
use Rattle.std.specs.Prelude.{ℕ, zero, suc, ◌+◌, ◌*◌, ◌^◌, ◌/◌, ◌%◌, ◌≤◌, ◌<◌, ◌≡◌, max, refl, List, [], ◌∷◌, ◌++◌, ℤ, pos, negsuc, length, get_or, take, drop, set}
use Rattle.std.proofs.Common.{sym, ap, ◌∙◌, subst, append_assoc, arith, lt-ltb, le-ltb, length-append, length-set, take-append-drop, drop-drop, length-take-le, take_at, take-suc}
use Rattle.std.proofs.Math.Decide.{dec_lt}
use Rattle.std.proofs.Math.Seq.{drop-append-add}
use Rattle.std.proofs.lemmas.List.{set_split}
use Rattle.std.specs.Int.Signed.{mag}
use Rattle.text.specs.Text.{digits_within, decimal, signed_decimal, signed_number, Put}

-- enough is enough
digits_same : (a b n : ℕ) → n < a → n < b → digits_within a n ≡ digits_within b n
unfolding digits_within
digits_same zero b n h k = absurd (omega arith)
digits_same (suc a) zero n h k = absurd (omega arith)
digits_same (suc a) (suc b) n h k =
    elim (dec_lt n 10) [
      | yes l ↦ rw (lt-ltb n 10 l)
      | no l ↦ rw (le-ltb n 10 (omega arith), digits_same a b (n / 10) (omega arith) (omega arith))
    ]

-- a digit, and a number with a digit more
pub decimal_digit : (n : ℕ) → n < 10 → decimal n ≡ (48 + n) ∷ []
unfolding decimal digits_within
decimal_digit n h = rw (lt-ltb n 10 h)

pub decimal-more : (n : ℕ) → 10 ≤ n → decimal n ≡ decimal (n / 10) ++ ((48 + n % 10) ∷ [])
unfolding decimal digits_within
decimal-more n h =
    rw (le-ltb n 10 h)
    (ap (λ (l : List ℕ). l ++ ((48 + n % 10) ∷ [])) (digits_same n (suc (n / 10)) (n / 10) (omega arith) (omega arith)))

pub decimal-longer : (n : ℕ) → 10 ≤ n → length (decimal n) ≡ length (decimal (n / 10)) + 1
decimal-longer n h = ap length (decimal-more n h) ∙ length-append (decimal (n / 10)) ((48 + n % 10) ∷ [])

pub decimal-some : (n : ℕ) → 1 ≤ length (decimal n)
decimal-some n =
    elim (dec_lt n 10) [
      | yes l ↦ rw (decimal_digit n l) (omega arith)
      | no l ↦ omega (arith, decimal-longer n (omega arith))
    ]

pow-some : (k : ℕ) → 1 ≤ 10 ^ k
pow-some zero = omega arith
pow-some (suc k) = omega (arith, pow-some k)

-- a number between two powers of ten in a row
decimal-size : (k n : ℕ) → 10 ^ k ≤ n → n < 10 ^ suc k → length (decimal n) ≡ suc k
decimal-size zero n h l = rw (decimal_digit n (omega arith)) refl
decimal-size (suc k) n h l =
    let some : 1 ≤ 10 ^ k = pow-some k in
    omega (arith, decimal-longer n (omega arith), decimal-size k (n / 10) (omega arith) (omega arith))

-- 0 has as many digits as 1
pub decimal-size-max : (n m k : ℕ) → m ≡ max n 1 → 10 ^ k ≤ m → m < 10 * 10 ^ k → k + 1 ≡ length (decimal n)
decimal-size-max zero m k e h l =
    let z : k ≡ 0 = pow-one k (omega arith) in
    rw (decimal_digit 0 (omega arith)) (omega arith)
  where
    pow-one : (k : ℕ) → 10 ^ k ≤ 1 → k ≡ 0
    pow-one zero h = refl
    pow-one (suc k) h = absurd (omega (arith, pow-some k))
decimal-size-max (suc n) m k e h l =
    let same : m ≡ suc n = omega arith in
    omega (arith, decimal-size k (suc n) (omega arith) (omega arith))

-- a number of at most k digits
pub decimal-length : (k n : ℕ) → n < 10 ^ suc k → length (decimal n) ≤ suc k
decimal-length zero n h = rw (decimal_digit n (omega arith)) (omega arith)
decimal-length (suc k) n h =
    elim (dec_lt n 10) [
      | yes l ↦ rw (decimal_digit n l) (omega arith)
      | no l ↦
          omega (arith, decimal-longer n (omega arith), decimal-length k (n / 10) (omega arith))
    ]

pub decimal-short : (n : ℕ) → n < 4294967296 → length (decimal n) ≤ 10
decimal-short n h = decimal-length 9 n (omega arith)

-- a whole number of at most suc k digits, behind a space and perhaps a minus sign
pub signed-length : (k : ℕ) (z : ℤ) → suc (mag z) < 10 ^ suc k → length (signed_number z) ≤ suc k + 2
unfolding signed_decimal
signed-length k (pos n) h = omega (arith, decimal-length k n (omega arith))
signed-length k (negsuc n) h = omega (arith, decimal-length k (suc n) h)

-- a natural number of at most suc k digits, behind a space
pub natural-length : (k n : ℕ) (z : ℤ) → z ≡ pos n → n < 10 ^ suc k → length (signed_number z) ≤ suc k + 1
unfolding signed_decimal
natural-length k n z e h = rw e (omega (arith, decimal-length k n h))

-- one text behind the other
pub put_both : {s : List ℕ} {at : ℕ} {xs t : List ℕ} {k : ℕ} {ys u : List ℕ} {l : ℕ} → Put s at xs t k → Put t k ys u l →
    Put s at (xs ++ ys) u l
put_both {s} {at} {xs} {t} {k} {ys} {u} {l} p q =
    let size : length (xs ++ ys) ≡ length xs + length ys = length-append xs ys in
    let behind : at + length xs + length ys ≡ at + length (xs ++ ys) = omega arith in
    let head : length (take at s ++ xs) ≡ k =
    length-append (take at s) xs
    ∙ (ap (λ (n : ℕ). n + length xs) (length-take-le at s (omega (arith, p.fits))) ∙ sym p.next-is) in
    let front : t ≡ (take at s ++ xs) ++ drop (at + length xs) s
    = p.after_is ∙ sym (append_assoc (take at s) xs (drop (at + length xs) s)) in
    let first : take k t ≡ take at s ++ xs = ap (take k) front ∙ take_at (take at s ++ xs) (drop (at + length xs) s) k head in
    let rest : drop (k + length ys) t ≡ drop (at + length (xs ++ ys)) s
    = ap (drop (k + length ys)) front
    ∙ (ap (λ (n : ℕ). drop (n + length ys) ((take at s ++ xs) ++ drop (at + length xs) s)) (sym head)
    ∙ (drop-append-add (take at s ++ xs) (drop (at + length xs) s) (length ys)
    ∙ (drop-drop (length ys) (at + length xs) s ∙ ap (λ (n : ℕ). drop n s) behind))) in
    record {
      after_is = q.after_is
          ∙ (ap (λ (w : List ℕ). w ++ (ys ++ drop (k + length ys) t)) first
          ∙ (ap (λ (w : List ℕ). (take at s ++ xs) ++ (ys ++ w)) rest
          ∙ (append_assoc (take at s) xs (ys ++ drop (at + length (xs ++ ys)) s)
          ∙ ap (λ (w : List ℕ). take at s ++ w) (sym (append_assoc xs ys (drop (at + length (xs ++ ys)) s))))));
      next-is = omega (arith, q.next-is, p.next-is, size);
      fits = omega (arith, q.fits, p.next-is, p.fits, p.same_length, size);
      same_length = q.same_length ∙ p.same_length;
    }

-- no text
pub put-none : (s : List ℕ) (at : ℕ) → at ≤ length s → Put s at [] s at
put-none s at h =
    let e : at + 0 ≡ at = omega arith in
    record { after_is = rw e (sym (take-append-drop at s)); next-is = omega arith; fits = omega arith; same_length = refl }

-- one byte
pub put_one : (s : List ℕ) (at b : ℕ) → at < length s → Put s at (b ∷ []) (set s at b) (at + 1)
put_one s at b h =
    let e : at + 1 ≡ suc at = omega arith in
    record { after_is = rw e (set_split s at b h); next-is = refl; fits = omega arith; same_length = length-set s at b }

-- the same text told in another way, and the same place
pub put_as : {s : List ℕ} {at : ℕ} {xs ys t : List ℕ} {k : ℕ} → xs ≡ ys → Put s at xs t k → Put s at ys t k
put_as {s} {at} {xs} {ys} {t} {k} e p = subst (λ (w : List ℕ). Put s at w t k) e p

pub put-at : {s : List ℕ} {at : ℕ} {xs t : List ℕ} {k l : ℕ} → k ≡ l → Put s at xs t k → Put s at xs t l
put-at {s} {at} {xs} {t} e p = subst (λ (n : ℕ). Put s at xs t n) e p

-- one byte more of some bytes
pub put-more : {s : List ℕ} {at : ℕ} {t : List ℕ} (bytes : List ℕ) (i : ℕ) → i < length bytes → at + length bytes ≤ length s →
    Put s at (take i bytes) t (at + i) →
    Put s at (take (i + 1) bytes) (set t (at + i) (get_or bytes i 0)) (at + (i + 1))
put-more {s} {at} {t} bytes i h room p =
    let n : i + 1 ≡ suc i = omega arith in
    let k : length (take i bytes) ≡ i = length-take-le i bytes (omega arith) in
    let inside : at + i < length t = omega (arith, p.same_length) in
    rw n (put_as (sym (take-suc bytes i 0 h)) (put-at (omega arith) (put_both p (put_one t (at + i) (get_or bytes i 0) inside))))

-- text put at the beginning stands there
pub put_first : {buffer text after : List ℕ} {next : ℕ} → Put buffer 0 text after next → take next after ≡ text
put_first {buffer} {text} {next = next} p =
    ap (take next) p.after_is ∙ take_at text (drop (0 + length text) buffer) next (omega (arith, p.next-is))
