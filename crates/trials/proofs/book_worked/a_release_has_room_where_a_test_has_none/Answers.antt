use Rattle.std.proofs.Common.{refl}
use Rattle.trials.proofs.book_worked.a_release_has_room_where_a_test_has_none.Goals as goal

pub returns : goal.returns
returns c = refl
