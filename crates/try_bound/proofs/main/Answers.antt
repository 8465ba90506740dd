use Rattle.std.proofs.Common.{rules}
use Rattle.try_bound.proofs.main.Goals as goal

pub answer_input-requires-clause-in_room : goal.answer_input-requires-clause-in_room
answer_input-requires-clause-in_room c = λ given room r left e made. search rules
