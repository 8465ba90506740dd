-- Document 02, §6: "one pass over the sorted list shall do both. After each processor passed, classes and counts are those of the
-- processors passed so far." The sorted list has the processors by falling memory, ties in input order.
use Rattle.std.specs.Prelude.{ℕ, suc, ◌-◌, ◌≤◌, ◌≡◌, List, [], ◌∷◌, ◌++◌, length, get_or, set}
use Rattle.sums.specs.Lists.{All, tabulate}
use Rattle.order.specs.Order.{Order, memory_of}
use Rattle.order.specs.Sorted.{processor_order}
use Rattle.order.specs.Class.{classes, memory_of_class, processors_in}
use Rattle.order.specs.Table.{padded}
use Rattle.table.specs.declared.LastClass.{LastClass}
use Rattle.table.specs.declared.Listing.{Listing}

-- the classes of an order and the processors of each, as the code holds them: class 1 first, 0 beyond the last
abbrev pub listing : Order → Listing
listing o = record {
  count = length (classes o);
  memories = padded 16 (classes o);
  procs = tabulate 16 (λ i. processors_in o (suc i));
}

-- processors of these memories, and no job
abbrev pub processors_of : List ℕ → Order
processors_of memories = record { memories = memories; jobs = [] }

-- the first k processors of the sorted list
abbrev pub passed : Order → ℕ → Order
passed o k = processors_of (tabulate k (λ i. memory_of o (get_or (processor_order o) i 0)))

-- the last class of an order: its number, its memory and its processors; 0 each where there is no processor
abbrev pub last_class : Order → LastClass
last_class o = record {
  number = length (classes o);
  memory = memory_of_class o (length (classes o));
  procs = processors_in o (length (classes o));
}

-- a listing with this class as its last
abbrev pub with_class : Listing → LastClass → Listing
with_class l c = record {
  count = c.number;
  memories = set l.memories (c.number - 1) c.memory;
  procs = set l.procs (c.number - 1) c.procs;
}

-- one processor more: whichever were passed, each of no less memory, where `last` is their last class, `next` is that of them and this
-- one, and their listing with `next` as its last class is the listing of them and this one
abbrev pub OneMore : LastClass → ℕ → LastClass → Type 0
OneMore last memory next =
    (memories : List ℕ) → All (λ m. memory ≤ m) memories → last ≡ last_class (processors_of memories) →
    (next ≡ last_class (processors_of (memories ++ (memory ∷ []))))
    × (with_class (listing (processors_of memories)) next ≡ listing (processors_of (memories ++ (memory ∷ []))))
