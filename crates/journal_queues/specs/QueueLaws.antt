-- What the checker's verdict says of a journal (TS 36.323 5.1.1, 5.2, 5.4).
use Rattle.std.specs.Prelude.{List, [], ◌∷◌, ◌≡◌, None, IsTrue, ◌↔◌}
use Rattle.air_record.specs.declared.line.Line.{Line}
use Rattle.air_record.specs.declared.line.Line.TheVariants as lines
use Rattle.air_text.specs.Groups.{Group}
use Rattle.promises.specs.Configs.{config_of}
use Rattle.promises.specs.Takes.{SdusLeaveInOrder, SignalsLeaveInOrder}
use Rattle.journal_form.specs.Lines.{HasLayout}
use Rattle.journal_queues.specs.QueueChecking.{all_checked}

abbrev pub HaveLayouts : List Group → Type 0
HaveLayouts [] = Unit {0}
HaveLayouts (now ∷ past) = HasLayout now.line × HaveLayouts past

-- a bearer comes to a channel that had none
abbrev pub ComesNew : Line → List Group → Type 0
ComesNew (lines.Bearer config options) past = config_of config.channel.lcid past ≡ None
ComesNew line past = Unit {0}

abbrev pub BearersAreNew : List Group → Type 0
BearersAreNew [] = Unit {0}
BearersAreNew (now ∷ past) = ComesNew now.line past × BearersAreNew past

-- the checker's verdict is exactly that SDUs leave the queues of bearers without acknowledgement in
-- their order
abbrev pub VerdictIsExact : Type 0
VerdictIsExact =
    (past : List Group) → HaveLayouts past → BearersAreNew past
    → IsTrue (all_checked past).right ↔ (SdusLeaveInOrder past × SignalsLeaveInOrder past)
