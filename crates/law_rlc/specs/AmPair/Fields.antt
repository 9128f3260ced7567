-- The data fields of a flow, by their numbers, and what the receiver hears of them (TS 36.322
-- 6.2.1.4, 6.2.1.5).
use Rattle.std.specs.Prelude.{ℕ, Bool, true, ◌||◌, List, [], ◌∷◌, length, map, nat_lt}
use Rattle.std.specs.Prelude.{slice_index_or, if◌then◌else◌}
use Rattle.l2_types.specs.declared.config.AmTxConfig.{AmTxConfig}
use Rattle.l2_types.specs.declared.AmRxConfig.{AmRxConfig}
use Rattle.rlc_am_rx_window.specs.Cells.{Cell, cell}
use Rattle.law_rlc.specs.AmSender.Octets.{Place, last_ends}
use Rattle.law_rlc.specs.AmReceiver.Stream.{AreHonest, initial, NoneClashes}
use Rattle.law_rlc.specs.AmReceiver.Finish.{IsStream}
use Rattle.law_rlc.specs.AmPair.Flow.{Flow, Step, sender, goes, am_rlc_outset}
use Rattle.law_rlc.specs.AmPair.Given.{AreGiven}

abbrev pub cell_of : Place → Cell
cell_of p = cell p.octet p.begins p.ends

abbrev pub cells_of : List Place → List Cell
cells_of ps = map cell_of ps

-- whether the octet behind all that was sent begins an SDU
abbrev pub next_begins : Bool → List (List Place) → Bool
next_begins begins [] = begins
next_begins begins (ps ∷ pss) = next_begins (last_ends ps) pss

-- the field of a number is what its new PDU carried; of one that isn't sent, any that the stream
-- may go on with
abbrev pub field_of : List (List Place) → ℕ → List Cell
field_of sent n = if nat_lt n (length sent) then cells_of (slice_index_or sent n [])
    else cell 0 (nat_lt (length sent) n || next_begins true sent) true ∷ []

-- the fields follow each other as one stream of SDUs, and each data PDU that comes carries a part
-- of the field that its number was sent with
pub record HearsFields (f : Flow) : Type 0 where
  pub stream : IsStream (field_of (sender f).past.sent)
  pub parts : AreHonest (field_of (sender f).past.sent) (initial f.receiving).state f.heard

abbrev pub HearsWhatWasSent : Type 0
HearsWhatWasSent = (sending : AmTxConfig) (receiving : AmRxConfig) (steps : List Step)
    → AreGiven (am_rlc_outset sending receiving) steps
    → HearsFields (goes steps (am_rlc_outset sending receiving))

-- none of them clashes with what the receiver holds
abbrev pub NothingClashes : Type 0
NothingClashes = (sending : AmTxConfig) (receiving : AmRxConfig) (steps : List Step)
    → AreGiven (am_rlc_outset sending receiving) steps
    → NoneClashes (initial (goes steps (am_rlc_outset sending receiving)).receiving).state
    (goes steps (am_rlc_outset sending receiving)).heard
