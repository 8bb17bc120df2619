-- A world of gateways and nodes with the octets of their messages: what it is, and what each event makes of it.
pub mod Addresses
pub mod Messages
pub mod Gateway
pub mod Expired
pub mod Answers
pub mod World
pub mod Turn
pub mod Beginning
-- What its laws say: that each record is filed once, and stands once in the files of all gateways.
pub mod Followed
pub mod Epochs
pub mod FiledOnce
pub mod Once
pub mod FilePlaces
pub mod StandsOnce
pub mod Readable
-- What else they say.
pub mod Growing
pub mod Admitted
pub mod Worked
-- ---- No promise above is read from here on.
pub mod ReachedLaws
-- What messages mean, and what a world is by that: letters, the deeds of nodes and the posts of gateways, in scenes. They
-- are steps of the proof, with laws of their own; `Told` says of a world what its messages tell for certain.
pub mod Deeds
pub mod Following
pub mod Happenings
pub mod Resting
pub mod Scenes
pub mod Story
pub mod Meaning
pub mod Shown
pub mod Told
-- What a world that runs keeps, for tests.
pub mod Standing
pub mod HistoryKept
pub mod GatewayFields
pub mod Moves
pub mod Redirecting
pub mod NodeMoves
pub mod KeptTurn
pub mod Stepping
pub mod WorldFields
