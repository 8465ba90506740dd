-- What is handed in tells a reason exactly if it is what the planner would tell of it.
use Rattle.std.specs.Prelude.{Option, None, Some}
use Rattle.std.specs.Prelude.{ℕ, zero, suc, ◌≤◌, ◌≡◌, refl, Bool, true, false, cond, ◌&&◌, List, [], ◌∷◌, leb, eqb, ℤ, pos, negsuc, length, get_or, take, drop}
use Rattle.std.proofs.Common.{sym, ap, ◌∙◌, arith, eqb-true, eq-eqb, leb-true, le-leb, length-take-le}
use Rattle.sums.specs.Lists.{tabulate}
use Rattle.sums.specs.Places.{take-tabulate}
use Rattle.order.specs.Order.{Order, job_of}
use Rattle.order.proofs.RefusalLaws.{both_true}
use Rattle.profile.specs.Reason.{Reason as TightReason, over_end, stairs}
use Rattle.profile.specs.Search.{nothing, found}
use Rattle.profile.specs.Standing.{same_z}
use Rattle.reason.specs.Told.{why_of}
use Rattle.reason.specs.declared.Reason.TheVariants.{Job, Stairs}
use Rattle.reason.specs.declared.Why.{Why}
use Rattle.sentence.specs.Handed.{all_zero, handed_by, handed}
use Rattle.reason.specs.declared.Reason.{Reason}

-- beyond the due times of a staircase there is nothing but zeros
beyond-zero : (n : ℕ) (dues : List ℤ) → all_zero (drop (length dues) (tabulate n (λ i. get_or dues i (pos 0)))) ≡ true
unfolding all_zero
beyond-zero zero [] = refl
beyond-zero zero (d ∷ dues) = refl
beyond-zero (suc n) [] = beyond-zero n []
beyond-zero (suc n) (d ∷ dues) = beyond-zero n dues

-- a reason that fits the code's values: up to sixteen due times
abbrev pub Fitting : TightReason → Type 0
Fitting (over_end j) = Unit {0}
Fitting (stairs dues) = length dues ≤ 16

-- what the planner would tell of a reason tells that reason
pub handed-own : (o : Order) (r : TightReason) → Fitting r → handed o (why_of o (found r)) ≡ found r
handed-own o (over_end j) few =
    rw (eq-eqb (job_of o j).time (job_of o j).time refl, beyond-zero 16 []) refl
handed-own o (stairs dues) few =
    rw (le-leb (length dues) 16 few, beyond-zero 16 dues, take-tabulate dues 16 (pos 0) few) refl

-- only zeros
same-zero : (d : ℤ) → same_z d (pos 0) ≡ true → d ≡ pos 0
same-zero (pos n) e = ap pos (eqb-true n 0 e)
same-zero (negsuc n) e = let z : ◌≡◌ {A = ℕ} 0 1 = cc in absurd (omega arith)

zeros : (n : ℕ) (dues : List ℤ) → length dues ≡ n → all_zero dues ≡ true → dues ≡ tabulate n (λ i. pos 0)
unfolding all_zero
zeros zero [] l e = refl
zeros zero (d ∷ dues) l e = absurd (omega arith)
zeros (suc n) [] l e = absurd (omega arith)
zeros (suc n) (d ∷ dues) l e =
    let h = both_true (same_z d (pos 0)) (all_zero dues) e in
    let first = same-zero d h.0 in
    let rest = zeros n dues (omega arith) h.1 in
    cc (first, rest)

padded : (n : ℕ) (dues : List ℤ) (k : ℕ) → length dues ≡ n → k ≤ n → all_zero (drop k dues) ≡ true →
    dues ≡ tabulate n (λ i. get_or (take k dues) i (pos 0))
unfolding all_zero
padded n dues zero l few e = zeros n dues l e
padded zero dues (suc k) l few e = absurd (omega arith)
padded (suc n) [] (suc k) l few e = absurd (omega arith)
padded (suc n) (d ∷ dues) (suc k) l few e = ap (λ (ds : List ℤ). d ∷ ds) (padded n dues k (omega arith) (omega arith) e)

found-where : (b : Bool) (x r : TightReason) → cond b (found x) nothing ≡ found r → (b ≡ true) × (x ≡ r)
found-where true x r e = (refl, cc)
found-where false x r e = let z : ◌≡◌ {A = ℕ} 0 1 = cc in absurd (omega arith)

-- and nothing else tells it
pub handed-told : (o : Order) (why : Why) (r : TightReason) → length why.dues ≡ 16 → handed o why ≡ found r →
    why ≡ why_of o (found r)
handed-told o why r l e = at why.reason why.dues l e
  where
    at : (t : Option Reason) (dues : List ℤ) → length dues ≡ 16 → handed_by o t dues ≡ found r →
        ◌≡◌ {A = Why} (record { reason = t; dues = dues }) (why_of o (found r))
    at None dues l e = let z : ◌≡◌ {A = ℕ} 0 1 = cc in absurd (omega arith)
    at (Some (Job j time)) dues l e =
        let h = found-where (eqb time (job_of o j).time && all_zero dues) (over_end j) r e in
        let b = both_true (eqb time (job_of o j).time) (all_zero dues) h.0 in
        ap (λ (n : ℕ). record { reason = Some (Job j n); dues = dues }) (eqb-true time (job_of o j).time b.0)
        ∙ (ap (λ (ds : List ℤ). record { reason = Some (Job j (job_of o j).time); dues = ds }) (zeros 16 dues l b.1)
        ∙ ap (λ (x : TightReason). why_of o (found x)) h.1)
    at (Some (Stairs k)) dues l e =
        let h = found-where (leb k (length dues) && all_zero (drop k dues)) (stairs (take k dues)) r e in
        let b = both_true (leb k (length dues)) (all_zero (drop k dues)) h.0 in
        let few = leb-true k (length dues) b.0 in
        let size : length (take k dues) ≡ k = length-take-le k dues few in
        ap (λ (n : ℕ). record { reason = Some (Stairs n); dues = dues }) (sym size)
        ∙ (ap (λ (ds : List ℤ). record { reason = Some (Stairs (length (take k dues))); dues = ds })
        (padded 16 dues k l (omega arith) b.1)
        ∙ ap (λ (x : TightReason). why_of o (found x)) h.1)
