-- A plan laid stretch by stretch in a frame: what is written are the rows of the stretches up to the next mark.
use Prim.Native.Nat.{ℕ, zero, suc, ◌+◌, ◌*◌, ◌≤◌, ◌<◌}
use mathlib.Core.Path.{◌≡◌, refl, sym, ap, ◌∙◌}
use mathlib.Core.List.{List, [], ◌++◌}
use native.Mathlib.Omega.{arith}
use native.Mathlib.Numerals.{add-one}
use native.Mathlib.Decide.{dec_le, dec_lt}
use lib.ListN.{length, get_or, take, drop, replicate, length-append, length-take, get_or-replicate, get_or-eq_default}
use lib.Seq.{get_or-take, length-take-le}
use Rattle.sums.specs.Kept.{keep_all}
use Rattle.sums.specs.Lists.{keep}
use Rattle.sums.specs.Members.{All-from}
use Rattle.order.specs.Order.{Numbers}
use Rattle.plan.specs.Plan.{Row, Forward}
use Rattle.plan.specs.Check.{numbers_of}
use Rattle.plan.specs.Join.{joined}
use Rattle.plan.proofs.JoinLaws.{standing-none}
use Rattle.plan.proofs.JoinAgain.{Rises}
use Rattle.wrap.specs.Flows.{amount_in}
use Rattle.wrap.specs.Frame.{Frame, Rising, lies, in_turn}
use Rattle.table.specs.declared.Table.{Table}
use Rattle.layout.specs.Sheet.{Sheet, Good, sheet}
use Rattle.layout.specs.Planned.{open_at, lent_frame, rows_in, laid_out, planned, Joinable}
use Rattle.layout.specs.Laid.{Laid, Numbered, Numbering, rows_between}
use Rattle.layout.proofs.Writing.{laid_none, laid_then, laid-room, laid-all, laid-frame}
use Rattle.layout.proofs.Holding.{holds-none, all_hold}

-- what the plan is laid out of
pub record Given (t : Table) (marks : List ℕ) (q : ℕ) (opens closes w before : List ℕ) : Type 0 where
  pub few-processors : t.m ≤ 16
  pub few-jobs : t.n ≤ 48
  pub processors-numbered : Numbered t.m t.by_memory
  pub jobs-numbered : Numbered t.n t.by_need
  pub few-stretches : q ≤ 128
  pub amounts-long : t.n * q ≤ length w
  pub rising : Rising (lent_frame q marks opens closes)
  pub room : 4 * length (planned t q marks opens closes w) ≤ length before
  pub joinable : Joinable (planned t q marks opens closes w)

pub given : (t : Table) (marks : List ℕ) (q : ℕ) (opens closes w before : List ℕ) →
    ((t.m ≤ 16) × (t.n ≤ 48) × Numbered t.m t.by_memory × Numbered t.n t.by_need
    × (q ≤ 128) × (q ≤ length marks) × (t.m ≤ length opens) × (t.m ≤ length closes)
    × (t.n * q ≤ length w) × Rising (lent_frame q marks opens closes))
    × ((4 * length (planned t q marks opens closes w) ≤ length before) × Joinable (planned t q marks opens closes w)) →
    Given t marks q opens closes w before
given t marks q opens closes w before h =
    record {
      few-processors = h.0.0;
      few-jobs = h.0.1;
      processors-numbered = h.0.2;
      jobs-numbered = h.0.3;
      few-stretches = h.0.4;
      amounts-long = h.0.8;
      rising = h.0.9;
      room = h.1.0;
      joinable = h.1.1;
    }

-- a plan under way: the first s stretches are written, and the next one begins at `start`
pub record Framing (rows : ℕ → List Row) (f : Frame) (before : Sheet) (start s : ℕ) (after : Sheet) : Type 0 where
  pub laid : Laid (in_turn rows s) [] before after
  pub at_mark : start ≡ f.mark s
  pub a-stretch : s ≤ f.stretches
  pub few : after.count ≤ 64 * s

module _ (rows : ℕ → List Row) where
  turn_more : (n : ℕ) → in_turn rows (n + 1) ≡ in_turn rows n ++ rows n
  unfolding in_turn
  turn_more n = rw add-one

  turn-none : in_turn rows 0 ≡ []
  unfolding in_turn
  turn-none = refl

  -- later stretches only add rows
  turn-grow : (s n : ℕ) → s ≤ n → length (in_turn rows s) ≤ length (in_turn rows n)
  unfolding in_turn
  turn-grow s zero h = let e : s ≡ 0 = omega arith in rw e (omega arith)
  turn-grow s (suc n) h =
      elim (dec_le s n) [
        | yes l ↦ omega (arith, turn-grow s n l, length-append (in_turn rows n) (rows n))
        | no l ↦ let e : s ≡ suc n = omega arith in rw e (omega arith)
      ]

module _ (rows : ℕ → List Row) (f : Frame) where
  pub framing-start : (b : Sheet) → Good b → b.count ≡ 0 → f.mark 0 ≡ 0 → Framing rows f b 0 0 b
  framing-start b g none first =
      record {
        laid = rw (turn-none rows) (laid_none [] b g);
        at_mark = sym first;
        a-stretch = omega arith;
        few = omega arith;
      }

  -- all stretches are written, joined
  pub framing-end : (lent : List ℕ) → Joinable (in_turn rows f.stretches) → 4 * length (in_turn rows f.stretches) ≤ length lent →
      {start s : ℕ} {c : Sheet} → Framing rows f (sheet 0 (replicate 16 0) lent) start s c → f.stretches ≤ s →
      (c.count ≡ length (joined (in_turn rows f.stretches)))
      × (c.buffer ≡ numbers_of (joined (in_turn rows f.stretches)) ++ drop (4 * length (joined (in_turn rows f.stretches))) lent)
  framing-end lent join room {start} {s} {c} p h =
      let e : s ≡ f.stretches = omega (arith, p.a-stretch) in
      let all = in_turn rows f.stretches in
      let done = laid-all (rw e at p.laid) in
      let holds = all_hold [] all (holds-none lent) (standing-none Forward Rises all join.forward join.rises) join.named
      (omega arith) in
      (ap (λ (v : Sheet). v.count) done ∙ holds.count-is, ap (λ (v : Sheet). v.buffer) done ∙ holds.buffer-is)

-- sixteen processors have no row yet
pub good_none : (lent : List ℕ) → Good (sheet 0 (replicate 16 0) lent)
good_none lent = record { sixteen = refl; stand = λ i. none i; room = omega arith }
  where
    none : (i : ℕ) → get_or (replicate 16 0) i 0 ≤ 0
    none i =
        elim (dec_lt i 16) [
          | yes l ↦ omega (arith, get_or-replicate {A = ℕ} 16 i 0 0 l)
          | no l ↦ omega (arith, get_or-eq_default {A = ℕ} (replicate 16 0) 0 {n = i} (omega arith))
        ]

module _ {t : Table} {marks : List ℕ} {q : ℕ} {opens closes w lent : List ℕ} (g : Given t marks q opens closes w lent) where
  abbrev f : Frame
  f = lent_frame q marks opens closes

  abbrev rows : ℕ → List Row
  rows = rows_in (take t.m t.by_memory) (take t.n t.by_need) f (amount_in q w)

  -- the jobs are as many as the table has, and numbers of its own
  pub frame-count : 48 ≤ length t.by_need → length (take t.n t.by_need) ≡ t.n
  frame-count size = length-take-le t.n t.by_need (omega (arith, g.few-jobs))

  pub frame-jobs : 48 ≤ length t.by_need → Numbered (length (take t.n t.by_need)) (take t.n t.by_need)
  frame-jobs size =
      rw (frame-count size)
      (record { at = λ k l. rw (get_or-take t.n t.by_need k 0 l) (g.jobs-numbered.at k l) })

  -- the next stretch, from the last mark to the next one, on the processors that are open in it
  module _ {table : List ℕ} {start s : ℕ} {c : Sheet} (p : Framing rows f (sheet 0 table lent) start s c) (l : s < q)
      (count : ℕ) (list : List ℕ) (kept : (count ≤ t.m)
      × (take count list ≡ keep (open_at opens closes start (get_or marks s 0)) (take t.m t.by_memory))) where
    abbrev end : ℕ
    end = get_or marks s 0

    abbrev stretch : List Row
    stretch = rows_between start end (take count list) (take t.n t.by_need) (amount_in q w) s

    stretch-is : stretch ≡ rows s
    unfolding rows_in lies
    stretch-is = rw (kept.1, p.at_mark) refl

    pub frame-forward : start ≤ end
    frame-forward = omega (arith, p.at_mark, g.rising s l)

    -- each open processor has a number from 1 to 16
    pub frame-numbers : Numbering (take count list)
    frame-numbers =
        rw kept.1
        (keep_all (open_at opens closes start end) (Numbers 16) (take t.m t.by_memory)
        (All-from _ (take t.m t.by_memory) 0 (λ i m _.
        let k : i < t.m = omega (arith, length-take t.m t.by_memory) in
        let h = g.processors-numbered.at i k in
        rw (get_or-take t.m t.by_memory i 0 k) (h.0, omega (arith, h.1, g.few-processors)))))

    pub frame-room : 4 * (c.count + length stretch) ≤ length c.buffer
    unfolding laid_out
    frame-room =
        omega (
          arith,
          g.room,
          ap length stretch-is,
          p.laid.same_length,
          laid-room p.laid,
          ap length (turn_more rows s),
          length-append (in_turn rows s) (rows s),
          turn-grow rows (s + 1) q (omega arith),
        )

    pub framing-more : {d : Sheet} → Laid stretch [] c d × (d.count ≤ c.count + t.n + count) →
        Framing rows f (sheet 0 table lent) end (s + 1) d
    framing-more h =
        record {
          laid = rw (turn_more rows s) (laid_then (laid-frame (rows s) p.laid) (rw stretch-is at h.0));
          at_mark = rw add-one refl;
          a-stretch = omega arith;
          few = omega (arith, h.1, p.few, g.few-processors, g.few-jobs, kept.0);
        }
