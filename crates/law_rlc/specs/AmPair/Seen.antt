-- Which of the SDUs offered have arrived, octet by octet, and what has come up of them (TS 36.322
-- 5.1.3.2, 5.4).
use Rattle.std.specs.Prelude.{◌≡◌, ℕ, List, [], ◌∷◌, ◌++◌, map, if◌then◌else◌}
use Rattle.l2_types.specs.declared.config.AmTxConfig.{AmTxConfig}
use Rattle.l2_types.specs.declared.AmRxConfig.{AmRxConfig}
use Rattle.rlc_am_rx_window.specs.Window.{top}
use Rattle.rlc_am_rx.specs.Machine.{finished}
use Rattle.law_rlc.specs.AmReceiver.Finish.{Place, places, cut, all_come, octets_of, whole_of}
use Rattle.law_rlc.specs.AmReceiver.Finish.{arrived_in}
use Rattle.law_rlc.specs.AmPair.Flow.{Flow, Step, sender, receiver, goes, am_rlc_outset}
use Rattle.law_rlc.specs.AmPair.Given.{AreGiven}
use Rattle.law_rlc.specs.AmPair.Fields.{field_of}
use Rattle.law_rlc.specs.AmPair.Sdus.{offered, handed_up, ready}
use Rattle.law_words.specs.Lists.{AreFirstSdus}

-- the SDUs that end in numbers below VR(H), octet by octet, with whether the octet has arrived
abbrev pub seen : Flow → List (List Place)
seen f =
    cut [] (places (field_of (sender f).past.sent) (arrived_in (receiver f))
    (top (receiver f).state.window))

-- those of them before the first of which an octet hasn't arrived
abbrev pub in_sequence : List (List Place) → List (List ℕ)
in_sequence [] = []
in_sequence (s ∷ ss) = if all_come s then octets_of s ∷ in_sequence ss else []

-- what was handed up and what is ready are exactly the SDUs whose octets and all before them have
-- arrived
abbrev pub HandsUpInSequence : Type 0
HandsUpInSequence = (sending : AmTxConfig) (receiving : AmRxConfig) (steps : List Step)
    → AreGiven (am_rlc_outset sending receiving) steps
    → handed_up (goes steps (am_rlc_outset sending receiving))
    ++ ready (goes steps (am_rlc_outset sending receiving))
    ≡ in_sequence (seen (goes steps (am_rlc_outset sending receiving)))

-- those SDUs are the ones that were offered first, and what went up with what `finish` gives are
-- exactly those of them whose octets have all arrived: in their order, each once, unchanged
pub record GivesTheWhole (f : Flow) : Type 0 where
  pub first : AreFirstSdus (map octets_of (seen f)) (offered f)
  pub whole : handed_up f ++ finished (receiver f).state ≡ whole_of (seen f)

abbrev pub FinishGivesTheWhole : Type 0
FinishGivesTheWhole = (sending : AmTxConfig) (receiving : AmRxConfig) (steps : List Step)
    → AreGiven (am_rlc_outset sending receiving) steps
    → GivesTheWhole (goes steps (am_rlc_outset sending receiving))
