-- The data PDUs that are written of acknowledged data carry octets of their own numbers: each has
-- some, which SOs reach, and one that is sent again has octets of its number's data field
-- (TS 36.322 5.2.1, 6.2.1.5, 6.2.2.7).
use Rattle.std.specs.Prelude.{ℕ, ◌≡◌, ◌+◌, ◌<◌, ◌≤◌, ◌^◌, ◌%◌, ◌==◌, false, List, [], ◌∷◌, length}
use Rattle.std.specs.Prelude.{Some, Result, Ok, slice_index_or}
use Rattle.l2_types.specs.declared.channel.Kind.TheVariants.{Am}
use Rattle.l2_types.specs.declared.side.Side.{Side}
use Rattle.bearer_types.specs.declared.config.BearerConfig.{BearerConfig}
use Rattle.rlc_pdu.specs.declared.constants.TheConstants.{AM_MODULUS}
use Rattle.rlc_pdu.specs.declared.fault.RlcRefusal.{RlcRefusal}
use Rattle.rlc_pdu.specs.Pdus.{AmdPdu, AcknowledgedPdu, Payload}
use Rattle.rlc_pdu.specs.Reading.{am_at}
use Rattle.rlc_am_rx_window.specs.Piece.{octets_in, so_of}
use Rattle.air_text.specs.Groups.{Group}
use Rattle.law_words.specs.Arrivals.{AccountEntry, Passes, Account, no_account, accounted}
use Rattle.law_words.specs.Passing.{Writes, Told, last_with}
use Rattle.promises.specs.Arrival.{entries_from}
use Rattle.promises.specs.Configs.{config_of}

-- the place behind its last octet
abbrev pub end_of : AmdPdu → ℕ
end_of pdu = so_of pdu.segment + octets_in pdu.elements

-- by what the PDUs before it tell
pub record IsOwnData (t : Told) (pdu : AmdPdu) : Type 0 where
  pub some : 0 < octets_in pdu.elements
  pub few : end_of pdu < 2 ^ 15
  pub within : (pdu.sn == length t.fields % AM_MODULUS) ≡ false
      → end_of pdu ≤ slice_index_or t.fields (last_with pdu.sn (length t.fields)) 0

abbrev pub IsOwnPdu : Told → Result AcknowledgedPdu RlcRefusal → Type 0
IsOwnPdu t (Ok (Payload pdu)) = IsOwnData t pdu
IsOwnPdu t read = Unit {0}

abbrev pub IsOwn : Account → AccountEntry → Type 0
IsOwn a (Passes (Writes octets)) = IsOwnPdu a.rlc (am_at octets)
IsOwn a entry = Unit {0}

-- of all that is told, each by what was told before it
abbrev pub AreOwn : Account → List AccountEntry → Type 0
AreOwn a [] = Unit {0}
AreOwn a (h ∷ hs) = IsOwn a h × AreOwn (accounted h a) hs

-- behind each group, on each channel with an acknowledged data bearer
abbrev pub PdusAreOwn : List Group → Type 0
PdusAreOwn [] = Unit {0}
PdusAreOwn (g ∷ past) =
    ((from : Side) (lcid : ℕ) (config : BearerConfig) → config_of lcid (g ∷ past) ≡ Some config
    → config.kind ≡ Am
    → AreOwn no_account (entries_from config.pdcp_bits lcid from (g ∷ past)))
    × PdusAreOwn past
