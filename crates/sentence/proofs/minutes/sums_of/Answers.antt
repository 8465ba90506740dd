use Rattle.std.proofs.Common.{ℕ, suc, ◌+◌, ◌-◌, ◌*◌, length, ◌≡◌, ◌∙◌, sym, ap, arith, rules, pos, get_or}
use Rattle.sums.specs.Sum.{sum-none}
use Rattle.order.specs.Lead.{lead, last_due}
use Rattle.reason.specs.Asked.{owes_by}
use Rattle.sentence.proofs.Adding.{sum_step, sum_to, hand-small}
use Rattle.sentence.proofs.minutes.sums_of.Goals as goal

pub loop-i-init : goal.loop-i-init
loop-i-init c = (omega arith, omega arith, sym (sum-none _), sym (sum-none _))

pub overflow_add-owed : goal.overflow_add-owed
overflow_add-owed c = record { fits = omega (arith, c.loop-i.invariant.0, c.class_owes-owed.ensures.1) }

pub overflow_mul-on_hand : goal.overflow_mul-on_hand
overflow_mul-on_hand c =
    let l = c.loop-i in
    record {
      fits = omega (arith, hand-small _ (c.args.reach - c.lead_of-lead.result) (c.requires.0.procs l.i (omega arith)) (omega arith));
    }

pub overflow_add-on_hand : goal.overflow_add-on_hand
overflow_add-on_hand c =
    let l = c.loop-i in
    record {
      fits = omega (
        arith,
        l.invariant.1,
        hand-small _ (c.args.reach - c.lead_of-lead.result) (c.requires.0.procs l.i (omega arith)) (omega arith),
      );
    }

pub loop-i-preserved : goal.loop-i-preserved
loop-i-preserved c =
    let l = c.loop-i in
    let t = c.args.t in
    let n : l.i + 1 ≡ suc l.i = omega arith in
    let due = get_or c.args.dues.now l.i (pos 0) in
    let e : c.lead_of-lead.result ≡ lead last_due due = search rules in (
      omega (arith, l.invariant.0, c.class_owes-owed.ensures.1),
      omega (
        arith,
        l.invariant.1,
        hand-small _ (c.args.reach - c.lead_of-lead.result) (c.requires.0.procs l.i (omega arith)) (omega arith),
      ),
      sum_step l.i l.owed c.class_owes-owed.result _ l.invariant.2
          (c.class_owes-owed.ensures.0 ∙ ap (owes_by t (l.i + 1)) e ∙ ap (λ (k : ℕ). owes_by t k (lead last_due due)) n),
      sum_step l.i l.on_hand _ _ l.invariant.3 (ap (λ (g : ℕ). get_or t.procs l.i 0 * (c.args.reach - g)) e),
    )

pub returns : goal.returns
returns c =
    let l = c.loop-i in
    let e : l.i ≡ length c.args.dues.now = omega arith in
    (sum_to l.i _ l.owed _ l.invariant.2 e, sum_to l.i _ l.on_hand _ l.invariant.3 e, omega (arith, l.invariant.0))
