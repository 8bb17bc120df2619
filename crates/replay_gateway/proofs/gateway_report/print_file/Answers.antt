use Rattle.std.proofs.Common.{◌≡◌, ◌∙◌, ap, ℕ, suc, ◌+◌, List, [], ◌∷◌, ◌++◌, arith}
use Rattle.std.specs.Prelude.{codes}
use Rattle.std.specs.Fmt.{decimal}
use Rattle.hex.specs.Hex.{encode_upper}
use Rattle.replay_gateway.specs.GatewayReport.{file_name}
use Rattle.replay_gateway.proofs.ReportLemmas.{left_grouped, three_more}
use Rattle.replay_gateway.proofs.gateway_report.print_file.Goals as goal

pub returns : goal.returns
returns c =
    let next : c.args.place + 1 ≡ suc c.args.place = omega arith in
    let last : List ℕ = codes " " ++ (encode_upper c.args.octets.now ++ 10 ∷ []) in
    three_more c.args.out.now (codes "file " ++ (decimal (suc c.args.place) ++ codes " ")) (file_name c.args.name) last
    (c.in_ok-append.ensures.ok ∙ ap (λ text. c.args.out.now ++ text)
    (c.as_bytes.ensures.value ∙ c.in_ok-word.ensures.ok
    ∙ ap (λ n. codes "file " ++ (decimal n ++ codes " ")) (ap (λ k. k + 1) c.from.ensures ∙ next)))
    c.in_ok-print_name.ensures
    (c.in_ok-append-2.ensures.ok ∙ ap (λ text. c.print_name.new.out ++ text)
    (c.as_bytes-2.ensures.value ∙ c.in_ok-last.ensures.ok
    ∙ ap (λ hex. codes " " ++ (hex ++ 10 ∷ [])) c.in_ok-digits.ensures))
    ∙ ap (λ text. c.args.out.now ++ (codes "file " ++ text)) (left_grouped (decimal (suc c.args.place)) (codes " ")
    (file_name c.args.name) (codes " ") (encode_upper c.args.octets.now) (10 ∷ []))
