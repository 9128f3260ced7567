use Rattle.std.proofs.Common.{◌≡◌, ◌+◌, ◌%◌, ◌∙◌, ◌++◌, ap, List, ℕ, replicate}
use Rattle.std.specs.Prelude.{codes, Option}
use Rattle.hex.specs.Hex.{encode_lower}
use Rattle.script_generator.specs.Draws.{drawn, next}
use Rattle.script_generator.specs.Script.{sdu_front, sdu}
use Rattle.script_generator.proofs.Making.{sdu_made}
use Rattle.script_generator.proofs.text.put_sdu.Goals as goal

pub returns-clause-items : goal.returns-clause-items
returns-clause-items c =
    let old : List ℕ = c.args.text.now.items in
    let i : ℕ = c.args.i in
    let x : ℕ = c.args.draws.now in
    let behind : ℕ = c.draw.new.self in
    let size : ℕ = 1 + c.draw-2.result in
    let kind : c.draw.result ≡ drawn 8 (next x) = c.draw.ensures.drawn ∙ ap (drawn 8) c.draw.ensures.next in
    let is : size ≡ 1 + drawn 1400 (next behind) =
    ap (λ (n : ℕ). 1 + n) (c.draw-2.ensures.drawn ∙ ap (drawn 1400) c.draw-2.ensures.next) in
    c.put-2.ensures.items
    ∙ ap (λ (t : List ℕ). t ++ codes "\n") (c.put_same.ensures.items
    ∙ ap (λ (t : List ℕ). t ++ encode_lower (replicate size (i % 256))) c.put.ensures.items)
    ∙ sdu_made old c.in-Some.front.now i behind size is
    ∙ ap (λ (front : Option (List ℕ)). old ++ sdu front i behind) (c.in-Some.ensures.front ∙ ap sdu_front kind)
    ∙ ap (λ (y : ℕ). old ++ sdu (sdu_front (drawn 8 (next x))) i y) c.draw.ensures.next
