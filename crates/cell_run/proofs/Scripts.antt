-- A script run line by line, by the lines that its text says.
use Rattle.std.proofs.Common.{◌≡◌, ◌≤◌, ◌+◌, ◌∙◌, nat_lt, true, false, Bool, ℕ, List, [], ◌∷◌}
use Rattle.std.proofs.Common.{◌++◌, refl, ap, arith}
use Rattle.l2_io.specs.Feeds.{until_feed}
use Rattle.air_record.specs.declared.line.Line.{Line}
use Rattle.line_player.specs.Journal.{finished, waiting, follow, on_line, close_by, play, journal_from}
use Rattle.air_run.specs.Journal.{left_by, script}
use Rattle.line_player.specs.Lines.{lines_ended, tail_of}
use Rattle.air_run.specs.Run.{RunState, step}
use Rattle.line_player.proofs.Cutting.{tail-line}
use Rattle.line_player.proofs.Cutting.{from-text, lines-text}
use Rattle.air_run.proofs.Texts.{short-text}
use Rattle.script_generator.specs.Lines.{Says, SayAll}

-- the journal of a line and of those behind it
from-line : (whole : Bool) (text rest : List ℕ) (s : RunState) (number : ℕ) → until_feed text ≡ text
    → journal_from script whole s number (text ++ 10 ∷ rest)
    ≡ play script (close_by script whole (tail_of rest)) s number (text ∷ lines_ended rest)
unfolding journal_from
from-line whole text rest s number one =
    ap (λ (t : List ℕ). play script (close_by script whole t) s number (lines_ended (text ++ 10 ∷ rest)))
    (tail-line (text ++ 10 ∷ rest) rest (from-text text rest one))
    ∙ ap (λ (ls : List (List ℕ)). play script (close_by script whole (tail_of rest)) s number ls)
    (lines-text text rest one)

-- what a line does, and what comes after it
line-plays : (whole : Bool) (text rest : List ℕ) (line : Line) (s : RunState) (number : ℕ) → Says text line
    → number ≤ 1000000
    → play script (close_by script whole (tail_of rest)) s number (text ∷ lines_ended rest)
    ≡ follow script number (left_by line (step s number line)) (λ t. journal_from script whole t (number + 1) rest)
unfolding journal_from play on_line
line-plays whole text rest line s number says few =
    let count : nat_lt 1000000 number ≡ false = grind arith in
    rw (count, short-text text line says.read, says.whole, says.read) refl

pub script-runs : (whole : Bool) (octets : List ℕ) (line : Line) (lines : List Line) (s : RunState) (number : ℕ)
    → (h : SayAll octets (line ∷ lines)) → number ≤ 1000000
    → journal_from script whole s number octets
    ≡ follow script number (left_by line (step s number line)) (λ t. journal_from script whole t (number + 1) (h.1))
script-runs whole octets line lines s number h few =
    ap (λ (t : List ℕ). journal_from script whole s number t) (h.2) ∙ from-line whole (h.0) (h.1) s number (h.3).one
    ∙ line-plays whole (h.0) (h.1) line s number (h.3) few

-- nothing is left of all there is
pub script-ends : (octets : List ℕ) (s : RunState) (number : ℕ) → SayAll octets []
    → journal_from script true s number octets ≡ finished script s
unfolding journal_from play close_by
script-ends octets s number h = rw h refl

-- nothing is left, but more may come
pub script-waits : (octets : List ℕ) (s : RunState) (number : ℕ) → SayAll octets []
    → journal_from script false s number octets ≡ waiting
unfolding journal_from play close_by
script-waits octets s number h = rw h refl
