-- Exactly which SDUs of acknowledged data go up, as the journal tells: those before the first that
-- hasn't come (TS 36.322 5.1.3.2, TS 36.323 5.1.2.1.2).
use Rattle.std.specs.Prelude.{Bool, if◌then◌else◌, List, [], ℕ, ◌&&◌, ◌∷◌, ◌++◌, ◌≡◌, ◌-◌, length}
use Rattle.std.specs.Prelude.{take, false, Some, ◌≤◌}
use Rattle.law_words.specs.Arrivals.{AccountEntry, Renews, Account, no_account, account, has_come}
use Rattle.bearer_types.specs.Sides.{sender_of, is_same, other}
use Rattle.air_record.specs.declared.record.Record.{Record}
use Rattle.l2_types.specs.declared.side.Side.{Side}
use Rattle.promises.specs.Pdus.{carried}
use Rattle.promises.specs.Events.{told_on}
use Rattle.promises.specs.Given.{entries_given, entries_written, entries_come}
use Rattle.promises.specs.Records.{is_got, sent_last, events_of}
use Rattle.air_record.specs.declared.line.Line.{Line}
use Rattle.air_text.specs.Groups.{Group, history}
use Rattle.bearer_types.specs.declared.config.BearerConfig.{BearerConfig}
use Rattle.promises.specs.Taken.{leaves, taken_of}
use Rattle.promises.specs.Flows.{submitted, delivered}
use Rattle.l2_num.specs.Least.{IsLeast}
use Rattle.promises.specs.Delivery.{discarded, is_forged}
use Rattle.l2_types.specs.declared.channel.Kind.TheVariants.{Am}
use Rattle.promises.specs.Configs.{config_of}
use Rattle.air_record.specs.declared.record.Record.TheVariants as records
use Rattle.air_record.specs.declared.line.Line.TheVariants as lines

abbrev pub only_if : Bool → List AccountEntry → List AccountEntry
only_if here hs = if here then hs else []

-- a record, of what goes from a side, behind the block that was sent last; numbers of PDCP have so
-- many bits
abbrev pub entries_at : ℕ → ℕ → Side → List ℕ → Record → List AccountEntry
entries_at bits l from sent (records.Of side event) =
    only_if (is_same side from) (entries_given bits (told_on l (event ∷ [])))
entries_at bits l from sent (records.Block direction process fresh version octets) =
    only_if (fresh && is_same (sender_of direction) from)
    (entries_written (carried l direction octets))
entries_at bits l from sent (records.Air direction what heard) =
    only_if (is_got what && is_same (sender_of direction) from)
    (entries_come (carried l direction sent))
entries_at bits l from sent one = []

-- records, behind a block that was sent
abbrev pub entries_in : ℕ → ℕ → Side → List ℕ → List Record → List AccountEntry
entries_in bits l from sent [] = []
entries_in bits l from sent (one ∷ told) =
    entries_at bits l from sent one ++ entries_in bits l from (sent_last one sent) told

-- a handover ends a life of each bearer
abbrev pub entries_ended : Line → List AccountEntry
entries_ended (lines.Handover user rrc integrity) = Renews ∷ []
entries_ended line = []

-- what is told of the PDUs that go from a side on a channel, as it writes them and as they come;
-- numbers of PDCP have so many bits
abbrev pub entries_from : ℕ → ℕ → Side → List Group → List AccountEntry
entries_from bits lcid from [] = []
entries_from bits lcid from (g ∷ past) =
    entries_from bits lcid from past ++ (entries_ended g.line
    ++ entries_in bits lcid from [] g.events)

abbrev pub account_of : BearerConfig → ℕ → Side → List Group → Account
account_of config lcid from past = account (entries_from config.pdcp_bits lcid from past) no_account

-- of those that it submitted, the SDUs that a side takes, as its `take` and `discard` records tell
-- (TS 36.323 5.1.1, 5.4)
abbrev pub taken : BearerConfig → ℕ → Side → List Group → List (List ℕ)
taken config lcid from past =
    taken_of lcid config.first (events_of from (history past)) (submitted from lcid past)

-- what has gone up at the other end are the SDUs that a side took first: as many as COUNTs have
-- come before the first that hasn't, none of which is held back; as long as the side has discarded
-- none, they are the first that it submitted; no SDU is told of as taken for the first time, or as
-- discarded, that wasn't submitted
pub record HandsUpWhatCame (config : BearerConfig) (from : Side) (lcid : ℕ)
    (past : List Group) : Type 0 where
  pub next : ℕ
  pub least : IsLeast (has_come (account_of config lcid from past)) config.first next
  pub many : length (delivered (other from) lcid past) ≡ next - config.first
  pub which : delivered (other from) lcid past
      ≡ take (next - config.first) (taken config lcid from past)
  pub none_left_out : discarded from lcid past ≡ []
      → delivered (other from) lcid past ≡ take (next - config.first) (submitted from lcid past)
  pub were_submitted : length (leaves lcid config.first (events_of from (history past)))
      ≤ length (submitted from lcid past)

-- on each channel with an acknowledged data bearer, where no block was forged
abbrev pub AllHandUpWhatCame : List Group → Type 0
AllHandUpWhatCame past =
    (from : Side) (lcid : ℕ) (config : BearerConfig) → config_of lcid past ≡ Some config
    → config.kind ≡ Am → is_forged past ≡ false → HandsUpWhatCame config from lcid past

-- behind each group, of which the newest stands first
abbrev pub HandUpWhatCame : List Group → Type 0
HandUpWhatCame [] = Unit {0}
HandUpWhatCame (g ∷ past) = AllHandUpWhatCame (g ∷ past) × HandUpWhatCame past
