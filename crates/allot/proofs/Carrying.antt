-- The flat lists made of a table in a frame are what the engine asks for, and its answer about them is one about the table.
use Prim.Native.Nat.{ℕ, zero, suc, pred, ◌+◌, ◌-◌, ◌*◌, ◌≤◌, ◌<◌, min}
use mathlib.Core.Path.{◌≡◌, refl, sym, ap, ◌∙◌}
use mathlib.Core.Bool.{Bool, true, false}
use mathlib.Core.List.{List}
use native.Mathlib.Nat.{mul-le-mul_right}
use native.Mathlib.Omega.{arith}
use borrow.Author.Tests.{lt-leb}
use lib.Dec.{leb}
use lib.ListN.{get_or, take, length-take}
use Rattle.sums.specs.Arrays.{RowOf}
use Rattle.sums.specs.Sum.{sum, sum-le, sum-mul}
use Rattle.sums.specs.Kept.{keep_all, keep-few}
use Rattle.sums.specs.Lists.{only, nth, keep}
use Rattle.sums.specs.Members.{All-map, in-All}
use Rattle.sums.specs.Totals.{only-le, total-le, total-none, total-ones}
use Rattle.amounts.specs.Flow.{Flow}
use Rattle.amounts.specs.Same.{same-violating, same-feasible}
use Rattle.engine.specs.View.{grid, row, flow_of, Answer}
use Rattle.engine.specs.Start.{Given}
use Rattle.engine.specs.Run.{RunOf}
use Rattle.engine.specs.RunLaws.{run-carried}
use Rattle.wrap.specs.Frame.{Frame, length_in, lies, cap_in, open_in}
use Rattle.wrap.specs.FrameFlow.{only-more}
use Rattle.layout.specs.Planned.{frame_lent}
use Rattle.table.specs.Held.{value_of, by_number}
use Rattle.table.specs.HeldLaws.{value-at}
use Rattle.table.specs.declared.Table.{Table}
use Rattle.allot.specs.Flows.{open_on, flow_on, cap_on, room_on, Sized}
use Rattle.allot.specs.Tables.{Rows, Times, Classes}
use Rattle.allot.proofs.Shares.{lasts}

module _ (t : Table) (q : ℕ) (marks ready until opens closes : List ℕ)
    (S : Sized t (frame_lent q marks ready until opens closes)) where
  abbrev f : Frame
  f = frame_lent q marks ready until opens closes

  -- the lengths of the first stretches add up to the mark behind them
  lengths-add-up : (k : ℕ) → k ≤ q → sum k (length_in f) ≡ nth marks k 0
  unfolding sum
  lengths-add-up zero b = refl
  lengths-add-up (suc k) b = omega (arith, lengths-add-up k (omega arith), S.rising k b)

  -- no more processors are open than there are
  open-few : (s k : ℕ) → open_on t f s k ≤ 16
  open-few s k =
      let opened : List ℕ = keep (open_in f s) (take t.m t.by_memory) in
      omega (
        arith,
        total-ones opened,
        total-le opened (λ i. only (leb (get_or t.kinds (pred i) 0) k) 1) (λ i. 1)
            (in-All _ opened (λ i w. only-le (leb (get_or t.kinds (pred i) 0) k) 1)),
        keep-few (open_in f s) (take t.m t.by_memory),
        length-take t.m t.by_memory,
        S.few-processors,
      )

  -- the last mark is small
  last-small : (k : ℕ) → k ≤ q → nth marks k 0 ≤ 176000016
  last-small zero b = omega arith
  last-small (suc k) b = S.marks-small k b

  module _ (cap room : List ℕ) (A : Rows cap t.n q (cap_on marks ready until))
      (R : Rows room q (suc t.s) (room_on (take t.m t.by_memory) t.kinds marks opens closes)) where
    cap-is : (j s : ℕ) → j < t.n → s < q → grid q cap j s ≡ cap_in f (suc j) s
    unfolding lies
    cap-is j s b l = A.each j s b l

    room-is : (s k : ℕ) → s < q → k < suc t.s → grid (suc t.s) room s k ≡ open_on t f s k * length_in f s
    unfolding lies
    room-is s k b l = R.each s k b l

    last-room : (s : ℕ) → s < q → get_or room (s * suc t.s + (suc t.s - 1)) 0 ≡ open_on t f s t.s * length_in f s
    last-room s b =
        let e : suc t.s - 1 ≡ t.s = omega arith in
        ap (λ (k : ℕ). get_or room (s * suc t.s + k) 0) e ∙ room-is s t.s b (omega arith)

    -- what the open processors have in all stretches is small
    pub idle-small : lasts room (suc t.s) q ≤ 2816000256
    idle-small =
        omega (
          arith,
          sum-le q (λ s. get_or room (s * suc t.s + (suc t.s - 1)) 0) (λ s. 16 * length_in f s)
              (λ s b. omega (arith, last-room s b, mul-le-mul_right (length_in f s) (open-few s t.s))),
          sum-mul q 16 (length_in f),
          lengths-add-up q (omega arith),
          last-small q (omega arith),
        )

    -- the times and the classes in input order, and behind them those of the idle job
    module _ (times classes time class : List ℕ) (rt : RowOf (by_number t).time t.n times) (rc : RowOf (by_number t).class t.n classes)
        (T : Times t.n times (lasts room (suc t.s) q) time) (C : Classes t.n classes t.s class) where
      time-is : (j : ℕ) → j < t.n → get_or time j 0 ≡ (by_number t).time j
      time-is j b = T.each j b ∙ rt.at j b

      class-is : (j : ℕ) → j < t.n → get_or class j 0 ≡ (by_number t).class j
      class-is j b = C.each j b ∙ rc.at j b

      -- each job has a class
      classed : (j : ℕ) → j < t.n → (1 ≤ get_or class j 0) × (get_or class j 0 ≤ t.s)
      classed j b =
          let r = S.job-numbers.place (suc j) (omega arith, b) in
          let e : get_or class j 0 ≡ get_or t.classes r.0 0
          = class-is j b ∙ ap (value_of t.by_need t.n t.classes) (sym r.2)
          ∙ value-at t.by_need t.n S.job-numbers t.classes r.0 r.1 in
          rw e (S.classed r.0 r.1)

      -- as the engine sees them
      abbrev seen : Flow
      seen = flow_of t.n q (suc t.s) time class cap room

      -- no processor is of no class
      none_open : (s : ℕ) → open_on t f s 0 ≡ 0
      none_open s =
          total-none (keep (open_in f s) (take t.m t.by_memory)) _
          (keep_all (open_in f s) _ (take t.m t.by_memory)
          (All-map _ _ (take t.m t.by_memory)
          (λ i h passed. ap (λ (x : Bool). only x 1) (lt-leb (get_or t.kinds (pred i) 0) 0 h.1.0)) S.kinds))

      no_room : (s : ℕ) → s < q → get_or room (s * suc t.s + 0) 0 ≡ 0
      no_room s b =
          room-is s 0 b (omega arith)
          ∙ omega (arith, ap (λ (x : ℕ). x * length_in f s) (none_open s))

      asked : Given t.n q (suc t.s) time class room
      asked =
          record {
            classes = omega arith;
            low = λ j b. omega (arith, classed j b);
            high = λ j b. omega (arith, classed j b);
            idle-class = C.idle;
            idle-time = T.idle-is;
            no_room = no_room;
          }

      -- a room of the engine is the table's room for no more classes
      room_at : (s k : ℕ) → s < q → seen.room s k ≡ open_on t f s (min k (suc t.s - 1)) * length_in f s
      room_at s k b = room-is s (min k (suc t.s - 1)) b (omega arith)

      room-below : (s k : ℕ) → s < q → k < suc t.s → seen.room s k ≡ open_on t f s k * length_in f s
      room-below s k b l =
          let e : min k (suc t.s - 1) ≡ k = omega arith in
          room_at s k b ∙ ap (λ (i : ℕ). open_on t f s i * length_in f s) e

      open_more : (s k m : ℕ) → k ≤ m → open_on t f s k ≤ open_on t f s m
      open_more s k m h =
          let opened : List ℕ = keep (open_in f s) (take t.m t.by_memory) in
          total-le opened _ _ (in-All _ opened (λ i w. only-more (get_or t.kinds (pred i) 0) k m h))

      room-no-more : (s k : ℕ) → s < q → seen.room s k ≤ open_on t f s k * length_in f s
      room-no-more s k b =
          omega (
            arith,
            room_at s k b,
            mul-le-mul_right (length_in f s) (open_more s (min k (suc t.s - 1)) k (omega arith)),
          )

      told : (w : List ℕ) (r : Bool) → Answer seen (suc t.s) (grid q w) r → Answer (flow_on t f) (suc t.s) (grid q w) r
      told w true h =
          same-feasible t.n q (row time) (by_number t).time (row class) (by_number t).class
          (grid q cap) (flow_on t f).cap seen.room (flow_on t f).room time-is class-is cap-is room-no-more 1 (grid q w) h
      told w false h =
          record {
            κ = h.κ;
            below = h.below;
            violating =
                same-violating t.n q (row time) (by_number t).time (row class) (by_number t).class
                (grid q cap) (flow_on t f).cap seen.room (flow_on t f).room time-is class-is cap-is (suc t.s)
                room-below h.κ (λ s _. h.below s) h.violating;
          }

      -- the code's number of classes with the idle one
      module _ (m : ℕ) (e : m ≡ suc t.s) where
        pub given : Given t.n q m time class room
        given = rw e asked

        pub answered : (w : List ℕ) (r : Bool) → Answer (flow_of t.n q m time class cap room) m (grid q w) r →
            Answer (flow_on t f) (suc t.s) (grid q w) r
        answered w r h = told w r (rw e at h)

        -- a run over these lists is the table's
        pub carried : (w : List ℕ) (r : Bool) → RunOf (flow_of t.n q m time class cap room) m (grid q w) r →
            RunOf (flow_on t f) (suc t.s) (grid q w) r
        carried w r h =
            run-carried (suc t.s) seen (flow_on t f) (grid q w) r
            (record {
              n-same = refl;
              q-same = refl;
              time-same = time-is;
              class_same = class-is;
              cap-same = cap-is;
              room-same = room-below;
            }) (rw e at h)
