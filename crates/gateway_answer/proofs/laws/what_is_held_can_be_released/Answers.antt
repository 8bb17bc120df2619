use Rattle.gateway_answer.specs.RoomLaws.{cancel_has_resources, release_has_resources}
use Rattle.gateway_answer.proofs.laws.what_is_held_can_be_released.Goals as goal

pub returns-clause-release : goal.returns-clause-release
returns-clause-release c = λ h size from number numbers within.
    release_has_resources c.held_keys_are_those_in_that_state.ensures c.a_release_of_held_numbers_has_room.ensures
    c.a_cancel_of_held_numbers_has_room.ensures h size within from number numbers

pub returns-clause-cancel : goal.returns-clause-cancel
returns-clause-cancel c = λ h size from number numbers within.
    cancel_has_resources c.held_keys_are_those_in_that_state.ensures c.a_release_of_held_numbers_has_room.ensures
    c.a_cancel_of_held_numbers_has_room.ensures h size within from number numbers
