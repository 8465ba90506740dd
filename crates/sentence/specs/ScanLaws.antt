-- The reason tried for a reason's own line is that reason.
use Rattle.std.specs.Prelude.{ℕ, zero, suc, ◌+◌, ◌-◌, ◌*◌, ◌/◌, ◌%◌, ◌<◌, ◌≤◌, ◌≡◌, refl, Bool, true, false, List, [], ◌∷◌, ◌++◌, eqb, ℤ, pos, negsuc, nat_abs, length, get_or, set}
use Rattle.std.proofs.Common.{sym, ap, ◌∙◌, append_assoc, append-nil, arith, lt-ltb, le-ltb, eq-eqb, ne_eqb, length-append}
use Rattle.std.proofs.Math.Decide.{dec_lt}
use Rattle.std.specs.declared.option.Option.TheVariants.{None, Some}
use Rattle.std.proofs.Math.Seq.{append_snoc}
use Rattle.std.specs.Int.Signed.{mag}
use Rattle.sums.specs.Lists.{All, tabulate, nth}
use Rattle.order.specs.Order.{Order}
use Rattle.order.specs.Class.{classes}
use Rattle.profile.specs.Reason.{Reason, over_end, stairs, owed_of, on_hand_of}
use Rattle.profile.specs.Search.{found}
use Rattle.reason.specs.Told.{sixteen, why_of}
use Rattle.text.specs.Text.{ascii, decimal, signed_decimal, number, signed_number}
use Rattle.text.specs.TextLaws.{decimal_digit, decimal-more}
use Rattle.sentence.specs.Line.{job_text, between, class_text, sums_text, classes_from, line_of}
use Rattle.sentence.specs.Scanning.{
  signed_of,
  stored_at,
  first_of,
  one_more,
  other_byte,
  with_digit,
  stepped,
  scan_from,
  scan_start,
  scanned,
  tried,
  candidate,
}
use Rattle.sentence.specs.declared.Numbers.{Numbers}

-- a reason whose numbers are short: a job of at most eight digits; up to sixteen due times, from -10,000,000 to 9,999,999
abbrev pub Short : Reason → Type 0
Short (over_end j) = j < 100000000
Short (stairs dues) = (length dues ≤ 16) × All (λ (d : ℤ). mag d < 10000000) dues

-- outside a number, behind a minus sign or not
abbrev outside : Bool → ℕ → ℕ → List ℤ → Numbers
outside minus done first dues =
    record { number = None; minus = minus; done = done; first = first; dues = dues }

-- inside a number
abbrev inside : ℕ → Bool → ℕ → ℕ → List ℤ → Numbers
inside value minus done first dues =
    record { number = Some value; minus = minus; done = done; first = first; dues = dues }

-- one text behind the other
scan-append : (s : Numbers) (xs ys : List ℕ) → scan_from s (xs ++ ys) ≡ scan_from (scan_from s xs) ys
unfolding scan_from
scan-append s [] ys = refl
scan-append s (x ∷ xs) ys = scan-append (stepped s x) xs ys

-- a digit
step-digit : (s : Numbers) (d : ℕ) → d < 10 → stepped s (48 + d) ≡ with_digit s d
unfolding stepped
step-digit s d h =
    let same : 48 + d - 48 ≡ d = omega arith in
    rw (le-ltb (48 + d) 48 (omega arith), le-ltb 57 (48 + d) (omega arith), same) refl

-- a number of one digit
scan-digit : (n : ℕ) → n < 10 → (minus : Bool) (done first : ℕ) (dues : List ℤ) →
    scan_from (outside minus done first dues) (decimal n) ≡ inside (n % 100000000) minus done first dues
unfolding scan_from
scan-digit n h minus done first dues =
    rw (decimal_digit n h, step-digit (outside minus done first dues) n h)
    (ap (λ (v : ℕ). inside v minus done first dues) (omega arith))

-- the last digit behind the seven before it: the last eight
eight : (n : ℕ) → n / 10 % 100000000 % 10000000 * 10 + n % 10 ≡ n % 100000000
eight n = omega arith

-- a number: its last eight digits
scan-digits : (most n : ℕ) → n ≤ most → (minus : Bool) (done first : ℕ) (dues : List ℤ) →
    scan_from (outside minus done first dues) (decimal n) ≡ inside (n % 100000000) minus done first dues
unfolding scan_from
scan-digits zero n h minus done first dues = scan-digit n (omega arith) minus done first dues
scan-digits (suc most) n h minus done first dues =
    elim (dec_lt n 10) [
      | yes l ↦ scan-digit n l minus done first dues
      | no l ↦
          rw (
            decimal-more n (omega arith),
            scan-append (outside minus done first dues) (decimal (n / 10)) ((48 + n % 10) ∷ []),
            scan-digits most (n / 10) (omega arith) minus done first dues,
            step-digit (inside (n / 10 % 100000000) minus done first dues) (n % 10) (omega arith),
          )
          (ap (λ (v : ℕ). inside v minus done first dues) (eight n))
    ]

-- a number, and what stands behind it
scan-decimal : (n : ℕ) (ys : List ℕ) (minus : Bool) (done first : ℕ) (dues : List ℤ) →
    scan_from (outside minus done first dues) (decimal n ++ ys) ≡ scan_from (inside (n % 100000000) minus done first dues) ys
scan-decimal n ys minus done first dues =
    scan-append (outside minus done first dues) (decimal n) ys
    ∙ ap (λ (s : Numbers). scan_from s ys) (scan-digits n n (omega arith) minus done first dues)

-- a number with its sign: the sign, and the last eight digits
abbrev negative : ℤ → Bool
negative (pos n) = false
negative (negsuc n) = true

scan-signed : (z : ℤ) (done first : ℕ) (dues : List ℤ) →
    scan_from (outside false done first dues) (signed_decimal z)
    ≡ inside (nat_abs z % 100000000) (negative z) done first dues
unfolding scan_from stepped signed_decimal
scan-signed (pos n) done first dues = scan-digits n n (omega arith) false done first dues
scan-signed (negsuc n) done first dues = scan-digits (suc n) (suc n) (omega arith) true done first dues

-- a short one is read whole
signed-whole : (z : ℤ) → mag z < 10000000 → signed_of (negative z) (nat_abs z % 100000000) ≡ z
signed-whole (pos n) h = ap pos (omega arith)
signed-whole (negsuc n) h =
    let same : suc n % 100000000 ≡ suc n = omega arith in
    rw same refl

-- the second number, the fourth, .. is stored, and no other
stored-even : (dues : List ℤ) (i : ℕ) (z : ℤ) → stored_at dues (2 * i) z ≡ dues
stored-even dues i z = rw (ne_eqb (2 * i % 2) 1 (omega arith)) refl

stored-odd : (dues : List ℤ) (i : ℕ) (z : ℤ) → i < 16 → stored_at dues (2 * i + 1) z ≡ set dues i z
stored-odd dues i z h =
    let half : (2 * i + 1) / 2 ≡ i = omega arith in
    rw (eq-eqb ((2 * i + 1) % 2) 1 (omega arith), half, lt-ltb i 16 h) refl

-- one due time more in its place
set_more : (n : ℕ) (dues : List ℤ) (d : ℤ) → length dues < n →
    set (tabulate n (λ i. get_or dues i (pos 0))) (length dues) d ≡ tabulate n (λ i. get_or (dues ++ (d ∷ [])) i (pos 0))
set_more zero dues d h = absurd (omega arith)
set_more (suc n) [] d h = refl
set_more (suc n) (x ∷ dues) d h = ap (λ (l : List ℤ). x ∷ l) (set_more n dues d (omega arith))

-- a class's memory is not stored, its due time is
stored-class : (dues : List ℤ) (due m : ℤ) → length dues < 16 → mag due < 10000000 →
    stored_at (stored_at (sixteen dues) (2 * length dues) m) (2 * length dues + 1) (signed_of (negative due) (nat_abs due % 100000000))
    ≡ sixteen (dues ++ (due ∷ []))
stored-class dues due m few short =
    ap (λ (l : List ℤ). stored_at l (2 * length dues + 1) (signed_of (negative due) (nat_abs due % 100000000)))
    (stored-even (sixteen dues) (length dues) m)
    ∙ (stored-odd (sixteen dues) (length dues) _ few
    ∙ (ap (set (sixteen dues) (length dues)) (signed-whole due short) ∙ set_more 16 dues due few))

-- numbers are counted
more-is : (done : ℕ) → done < 100 → one_more done ≡ done + 1
more-is done h = rw (lt-ltb done 100 h) refl

counted : (value : ℕ) (minus : Bool) (done first : ℕ) (dues : List ℤ) → done < 100 →
    inside value minus (one_more done) first dues ≡ inside value minus (done + 1) first dues
counted value minus done first dues h = ap (λ (n : ℕ). inside value minus n first dues) (more-is done h)

-- a class behind the one before it: its memory is done, its due time is the last number
scan-class : (i memory : ℕ) (due : ℤ) (s : Numbers) (done first : ℕ) (dues : List ℤ) →
    done < 100 → other_byte s 32 ≡ outside false done first dues →
    scan_from s (between i ++ class_text memory due)
    ≡ inside (nat_abs due % 100000000) (negative due) (done + 1) (first_of done (memory % 100000000) first)
    (stored_at dues done (pos (memory % 100000000)))
unfolding scan_from stepped
scan-class i memory due s done first dues few e =
    begins i
    ∙ (scan-decimal memory (ascii " due" ++ signed_number due) false done first dues
    ∙ (scan-signed due (one_more done) (first_of done (memory % 100000000) first) (stored_at dues done (pos (memory % 100000000)))
    ∙ counted _ _ done _ _ few))
  where
    begins : (i : ℕ) → scan_from s (between i ++ class_text memory due)
        ≡ scan_from (outside false done first dues) (number memory ++ (ascii " due" ++ signed_number due))
    begins zero = ap (λ (t : Numbers). scan_from t (ascii "emory" ++ (number memory ++ (ascii " due" ++ signed_number due)))) e
    begins (suc i) =
        ap (λ (t : Numbers). scan_from t (ascii " memory" ++ (number memory ++ (ascii " due" ++ signed_number due)))) e

-- the minutes owed are done, the minutes on hand are the last number
scan-sums : (owed : ℕ) (on_hand : ℤ) (s : Numbers) (done first : ℕ) (dues : List ℤ) →
    done < 100 → other_byte s 32 ≡ outside false done first dues →
    scan_from s (sums_text owed on_hand)
    ≡ inside (nat_abs on_hand % 100000000) (negative on_hand) (done + 1) (first_of done (owed % 100000000) first)
    (stored_at dues done (pos (owed % 100000000)))
unfolding scan_from stepped
scan-sums owed on_hand s done first dues few e =
    ap (λ (t : Numbers). scan_from t (ascii " owed" ++ (number owed ++ (ascii ", on hand" ++ signed_number on_hand)))) e
    ∙ (scan-decimal owed (ascii ", on hand" ++ signed_number on_hand) false done first dues
    ∙ (scan-signed on_hand (one_more done) (first_of done (owed % 100000000) first) (stored_at dues done (pos (owed % 100000000)))
    ∙ counted _ _ done _ _ few))

-- these due times are read, once the last number is done
record Read (dues : List ℤ) (s : Numbers) : Type 0 where
  first : ℕ
  closed : other_byte s 32 ≡ outside false (2 * length dues) first (sixteen dues)

-- one class more
read-class : (i memory : ℕ) (dues : List ℤ) (due : ℤ) (s : Numbers) → length dues < 16 → mag due < 10000000 → Read dues s →
    Read (dues ++ (due ∷ [])) (scan_from s (between i ++ class_text memory due))
read-class i memory dues due s few short r =
    record {
      first = _;
      closed = ap (λ (t : Numbers). other_byte t 32)
          (scan-class i memory due s (2 * length dues) r.first (sixteen dues) (omega arith) r.closed)
          ∙ same (omega (arith, more-is (2 * length dues + 1) (omega arith), length-append dues (due ∷ [])))
          (stored-class dues due _ few short);
    }
  where
    same : {m n first : ℕ} {xs ys : List ℤ} → m ≡ n → xs ≡ ys → outside false m first xs ≡ outside false n first ys
    same e f = cc

-- more classes
read-classes : (memories : List ℕ) (i : ℕ) (more dues : List ℤ) (s : Numbers) → length dues + length more ≤ 16 →
    All (λ (d : ℤ). mag d < 10000000) more → Read dues s → Read (dues ++ more) (scan_from s (classes_from memories i more))
unfolding classes_from scan_from
read-classes memories i [] dues s few short r = rw (append-nil dues) r
read-classes memories i (due ∷ more) dues s few short r =
    let class = class_text (nth memories (suc i) 0) due in
    rw (
      sym (append_assoc (between i) class (classes_from memories (suc i) more)),
      scan-append s (between i ++ class) (classes_from memories (suc i) more),
      sym (append_snoc dues due more),
    )
    (read-classes memories (suc i) more (dues ++ (due ∷ [])) (scan_from s (between i ++ class))
    (omega (arith, length-append dues (due ∷ [])))
    short.1
    (read-class i (nth memories (suc i) 0) dues due s (omega arith) short.0 r))

-- a job with its time and its end
scan-job : (j time : ℕ) (end : ℤ) → scan_from scan_start (job_text j time end)
    ≡ inside (nat_abs end % 100000000) (negative end) 2 (j % 100000000) (set (sixteen []) 0 (pos (time % 100000000)))
unfolding scan_from stepped
scan-job j time end =
    scan-decimal j (ascii ": time" ++ (number time ++ (ascii ", end" ++ signed_number end))) false 0 0 (sixteen [])
    ∙ (scan-decimal time (ascii ", end" ++ signed_number end) false 1 (j % 100000000) (sixteen []) ∙ scan-signed end 2 _ _)

-- the job's number stays the first
job-first : (j time owed : ℕ) (end on_hand : ℤ) → (scanned (job_text j time end ++ sums_text owed on_hand)).first ≡ j % 100000000
job-first j time owed end on_hand =
    ap (λ (s : Numbers). s.first)
    (scan-append scan_start (job_text j time end) (sums_text owed on_hand)
    ∙ scan-sums owed on_hand (scan_from scan_start (job_text j time end)) 3 (j % 100000000) _ (omega arith)
    (ap (λ (s : Numbers). other_byte s 32) (scan-job j time end)))

-- the line of a staircase does not begin with j
stairs-begin : (memories : List ℕ) (dues : List ℤ) (ys : List ℕ) →
    eqb (get_or (classes_from memories 0 dues ++ (58 ∷ ys)) 0 0) 106 ≡ false
unfolding classes_from
stairs-begin memories [] ys = refl
stairs-begin memories (due ∷ dues) ys = refl

-- its line is read to its due times: each class has two numbers, and one more is done, the minutes owed
stairs-scanned : (memories : List ℕ) (dues : List ℤ) (owed : ℕ) (on_hand : ℤ) → length dues ≤ 16 →
    All (λ (d : ℤ). mag d < 10000000) dues →
    let s = scanned (classes_from memories 0 dues ++ sums_text owed on_hand) in
    (s.done ≡ 2 * length dues + 1) × (s.dues ≡ sixteen dues)
stairs-scanned memories dues owed on_hand few short =
    let r = read-classes memories 0 dues [] scan_start (omega arith) short (record { first = 0; closed = refl }) in
    let e = scan-append scan_start (classes_from memories 0 dues) (sums_text owed on_hand)
    ∙ scan-sums owed on_hand (scanned (classes_from memories 0 dues)) (2 * length dues) r.first (sixteen dues) (omega arith) r.closed in
    (ap (λ (s : Numbers). s.done) e, ap (λ (s : Numbers). s.dues) e ∙ stored-even (sixteen dues) (length dues) _)

-- such numbers are the staircase's
stairs-tried : (o : Order) (dues : List ℤ) (s : Numbers) → s.done ≡ 2 * length dues + 1 → s.dues ≡ sixteen dues →
    tried o false s ≡ why_of o (found (stairs dues))
stairs-tried o dues s done same =
    let half : s.done / 2 ≡ length dues = omega arith in
    cc (half, same)

-- the reason tried for a reason's line
pub candidate-found : (o : Order) (bound : ℤ) (r : Reason) → Short r → candidate o (line_of o bound r) ≡ why_of o (found r)
unfolding candidate line_of
candidate-found o bound (over_end j) h =
    ap (λ (n : ℕ). why_of o (found (over_end n))) (job-first j _ _ _ _ ∙ omega arith)
candidate-found o bound (stairs dues) h =
    let s = stairs-scanned (classes o) dues (owed_of o bound (stairs dues)) (on_hand_of o bound (stairs dues)) h.0 h.1 in
    rw (stairs-begin (classes o) dues _) (stairs-tried o dues (scanned (line_of o bound (stairs dues))) s.0 s.1)
