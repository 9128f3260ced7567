-- Whether the PDUs that a journal sends are right is told exactly (docs/laws/ACCOUNT.md).
use Rattle.std.specs.Prelude.{IsTrue, ◌↔◌, List}
use Rattle.air_text.specs.Groups.{Group}
use Rattle.journal_given.specs.Supplies as given
use Rattle.journal_sent.specs.SentPdus.{accounts}
use Rattle.journal_sent.specs.Sending.{all_sending}
use Rattle.journal_sent.specs.RightSent.{SentIsRight, ShapesAreRight}

-- by what is kept of streams and of what PDCP gives, exactly what their histories say
abbrev pub VerdictsAreExact : Type 0
VerdictsAreExact = (past : List Group)
    → (IsTrue (all_sending accounts given.accounts past).sent ↔ SentIsRight past)
    × (IsTrue (all_sending accounts given.accounts past).shaped ↔ ShapesAreRight past)
