-- The definitions computed on two worked stories of a node.
use Rattle.std.proofs.Common.{◌≡◌, ℕ, true, false, List, [], ◌∷◌, Some, None, refl}
use Rattle.node_core.proofs.Names.{Addr, befallen, Began, Cancel, due, is_done, is_resolved, made_by, node_of, NodeSetup, NodeValue, PacketForm, Path, Port, Redirects, Release, Responds, Saying, saying_entries, Submitted, tick_entries}
use Rattle.path_mgmt.specs.declared.event.PathEvent.TheVariants.{EchoAsked, AliveTold}
use Rattle.node_core.specs.declared.port.Port.TheVariants.{First, Second}
use Rattle.node_core.specs.declared.sending.Sending.TheVariants as send
use Rattle.node_core.specs.Counting.{counts_of}

abbrev gateway : ℕ → Addr
gateway ip = record { ip = ip; port = 3386 }

abbrev setup : List Addr → NodeSetup
setup gateways = record { address = 167772417; gateways = gateways; counter = 1 }

abbrev form : PacketForm
form = record { format = 1; version = 1536; records = (160 ∷ 3 ∷ 128 ∷ 1 ∷ 5 ∷ []) ∷ [] }

abbrev tick : NodeValue → NodeValue
tick node = befallen (tick_entries node) node

abbrev hear : Port → ℕ → Saying → NodeValue → NodeValue
hear port gateway saying node = befallen (saying_entries node port gateway saying) node

abbrev alive : ℕ → NodeValue → NodeValue
alive gateway node = hear First gateway (Path (AliveTold 0)) (hear First gateway (Path (EchoAsked 0)) node)

abbrev submit : NodeValue → NodeValue
submit node = befallen (Submitted form ∷ []) node

-- ---- the plain copy is filed, and the duplicate is cancelled

abbrev two : NodeValue
two = node_of (setup (gateway 167772161 ∷ gateway 167772162 ∷ [])) (Began ∷ [])

probes_both : due two ≡ send.Probe 0 0 ∷ send.Probe 1 0 ∷ []
probes_both = refl

abbrev ready : NodeValue
ready = submit (alive 1 (alive 0 (tick two)))

sends_plain : due ready ≡ send.Data 1 0 65536 true true ∷ []
sends_plain = refl

abbrev redirected_once : NodeValue
redirected_once = hear First 0 (Redirects None) (tick ready)

sends_duplicate : due redirected_once ≡ send.Data 1 1 65536 false true ∷ []
sends_duplicate = refl

abbrev held : NodeValue
held = hear First 1 (Responds 128 (65536 ∷ [])) (tick redirected_once)

tests : due held ≡ send.Test 1 0 65536 ∷ []
tests = refl

resolves : made_by is_resolved (tick held) Second 0 (Responds 253 (65536 ∷ [])) ≡ Some 1
resolves = refl

not_done_yet : made_by is_done (tick held) Second 0 (Responds 253 (65536 ∷ [])) ≡ None
not_done_yet = refl

abbrev filed : NodeValue
filed = hear Second 0 (Responds 253 (65536 ∷ [])) (tick held)

cancels : due filed ≡ send.Command 1 1 65536 65537 Cancel true ∷ []
cancels = refl

cancels_again : due (tick filed) ≡ send.Command 1 1 65536 65537 Cancel false ∷ []
cancels_again = refl

is_over : made_by is_done (tick filed) Second 1 (Responds 128 (65537 ∷ [])) ≡ Some 1
is_over = refl

abbrev over : NodeValue
over = hear Second 1 (Responds 128 (65537 ∷ [])) (tick filed)

nothing_is_left : due over ≡ []
nothing_is_left = refl

counts : counts_of over ≡ record { packets = 1; resolved = 1; done = 1 }
counts = refl

-- ---- the plain copy is sealed, and the duplicate is released

abbrev sealed : NodeValue
sealed = hear Second 0 (Responds 128 (65536 ∷ [])) (tick held)

releases : due sealed ≡ send.Command 1 1 65536 65537 Release true ∷ []
releases = refl

released : made_by is_done (tick sealed) Second 1 (Responds 128 (65537 ∷ [])) ≡ Some 1
released = refl

-- ---- three gateways: the release and the test of the other duplicate leave in one tick

abbrev three : NodeValue
three = node_of (setup (gateway 167772161 ∷ gateway 167772162 ∷ gateway 167772163 ∷ [])) (Began ∷ [])

abbrev sent_thrice : NodeValue
sent_thrice = tick (hear First 1 (Redirects None) (tick (hear First 0 (Redirects None) (tick
    (submit (alive 2 (alive 1 (alive 0 (tick three)))))))))

abbrev held_at_third : NodeValue
held_at_third = hear First 2 (Responds 128 (65536 ∷ [])) sent_thrice

tests_first : due held_at_third ≡ send.Test 1 0 65536 ∷ []
tests_first = refl

abbrev first_sealed : NodeValue
first_sealed = hear Second 0 (Responds 128 (65536 ∷ [])) (tick held_at_third)

releases_and_tests : due first_sealed ≡ send.Command 1 2 65536 65537 Release true ∷ send.Test 1 1 65536 ∷ []
releases_and_tests = refl

resolves_third : made_by is_resolved (tick first_sealed) Second 2 (Responds 128 (65537 ∷ [])) ≡ Some 1
resolves_third = refl

abbrev second_held : NodeValue
second_held = hear Second 1 (Responds 252 (65536 ∷ [])) (hear Second 2 (Responds 128 (65537 ∷ [])) (tick first_sealed))

cancels_second : due second_held ≡ send.Command 1 1 65536 65537 Cancel true ∷ []
cancels_second = refl

all_over : made_by is_done (tick second_held) Second 1 (Responds 128 (65537 ∷ [])) ≡ Some 1
all_over = refl
