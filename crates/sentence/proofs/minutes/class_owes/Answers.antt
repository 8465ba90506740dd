use Rattle.std.proofs.Common.{ℕ, ◌≡◌, ◌∙◌, sym, ap, arith, Bool, eqb, eq-eqb, ne_eqb, get_or}
use Rattle.sums.specs.Sum.{sum-none, sum_more}
use Rattle.sums.specs.Lists.{only}
use Rattle.reason.specs.Asked.{owed_by, owes_by}
use Rattle.sentence.proofs.Adding.{sum_step, sum_to}
use Rattle.sentence.proofs.minutes.class_owes.Goals as goal
use Rattle.sentence.proofs.minutes.class_owes.Goals.{then-t-j, else-t-j}

pub loop-j-init : goal.loop-j-init
loop-j-init c = (omega arith, sym (sum-none _))

pub loop-j-preserved : goal.loop-j-preserved
loop-j-preserved c =
    let l = c.loop-j in
    let t = c.args.t in
    let f : ℕ → ℕ = λ (j : ℕ).
    only (eqb (get_or t.classes j 0) c.args.class) (owed_by (get_or t.times j 0) (get_or t.leads j 0) c.args.g) in
    elim c.if-t-j.branch [
      | then-t-j w ↦
          let e : f l.j ≡ owed_by (get_or t.times l.j 0) (get_or t.leads l.j 0) c.args.g
          = ap (λ (b : Bool). only b (owed_by (get_or t.times l.j 0) (get_or t.leads l.j 0) c.args.g)) (eq-eqb _ _ w.if-t-j.true) in (
            omega (arith, w.owes-is, w.owed-owes.ensures, c.requires.times l.j (omega arith)),
            w.owes-is ∙ sum_step l.j l.owes w.owed-owes.result f l.invariant.1 (w.owed-owes.ensures ∙ sym e),
          )
      | else-t-j w ↦
          let e : f l.j ≡ 0
          = ap (λ (b : Bool). only b (owed_by (get_or t.times l.j 0) (get_or t.leads l.j 0) c.args.g)) (ne_eqb _ _ w.if-t-j.false) in
          (omega (arith, w.owes-is), omega (arith, w.owes-is, l.invariant.1, sum_more l.j f, e))
    ]

pub returns : goal.returns
unfolding owes_by
returns c =
    let l = c.loop-j in
    let e : l.j ≡ c.args.t.n = omega arith in
    (sum_to l.j _ l.owes _ l.invariant.1 e, omega (arith, c.requires.jobs))
