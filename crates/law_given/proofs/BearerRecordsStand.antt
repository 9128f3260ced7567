-- A channel has a bearer of acknowledged data where its latest line says so.
use Rattle.std.proofs.Common.{◌≡◌, ℕ, ◌≤◌, ◌==◌, Bool, true, false, List, [], ◌∷◌, Option, Some, None, refl, ap, ◌∙◌}
use Rattle.std.proofs.Common.{if◌then◌else◌}
use Rattle.std.specs.Prelude.{is_some, option_map}
use Rattle.l2_types.specs.declared.channel.Kind.{Kind}
use Rattle.l2_types.specs.declared.channel.Kind.TheVariants as bearers
use Rattle.l2_types.specs.declared.side.Side.{Side}
use Rattle.l2_types.specs.declared.side.Side.TheVariants.{Ue}
use Rattle.bearer_types.specs.declared.config.BearerConfig.{BearerConfig}
use Rattle.bearer_types.specs.declared.event.Event.{Event}
use Rattle.bearer_types.specs.declared.event.Event.TheVariants as events
use Rattle.bearer_types.specs.Sides.{sender_of}
use Rattle.air_record.specs.declared.line.Line.{Line}
use Rattle.air_record.specs.declared.line.Line.TheVariants as lines
use Rattle.air_record.specs.declared.record.Arrived.TheVariants.{Got}
use Rattle.air_record.specs.declared.record.Record.{Record}
use Rattle.air_record.specs.declared.record.Record.TheVariants as records
use Rattle.air_record.specs.declared.submission.Submission.{Submission}
use Rattle.air_record.specs.Submissions.{unrefused}
use Rattle.air_text.specs.Groups.{Group}
use Rattle.journal_takes.specs.TakeEvents.{SduSubmitted, SduDiscarded}
use Rattle.journal_flows.specs.Accounts.{Keeping, after_group as group_kept}
use Rattle.journal_flows.specs.Laws.{bearer_by, bearer_on}
use Rattle.journal_given.specs.Supplies.{Keeper, Supply, Bearer, told, takes_pdu, takes_report}
use Rattle.journal_given.specs.Giving.{Giving, on_side, bearer_begun, landed_on, ended_on, bearer_at}
use Rattle.journal_given.specs.Giving.{after_line, after_record, after_records, after_group, given_within, all_given}
use Rattle.law_given.specs.OneBearer.{changed_if, bearer_submits, bearer_happens, bearer_told, bearer_by_line}
use Rattle.law_given.specs.OneBearer.{OneChannel, channel_in, one_group, HasChannels}
use Rattle.law_given.specs.BearerRecords.{is_data, has_data, BearersStand}
use Rattle.law_given.proofs.OneBearer.{none_at, one_bearer_by_records, one_channel_by_steps}
use Rattle.law_given.proofs.OneBearerGroups.{given_has, within_has}

stays : {A : Type 0} (f : A → A) (o : Option A) → is_some (option_map f o) ≡ is_some o
stays f None = refl
stays f (Some a) = refl

if_stays : {T : Type 0} (here : Bool) (side : Side) (f : Supply T → Supply T) (o : Option (Bearer T))
    → is_some (changed_if here side f o) ≡ is_some o
if_stays true side f o = stays (on_side side f) o
if_stays false side f o = refl

pub submits_stay : {T : Type 0} (k : Keeper T) (l : ℕ) (s : Option Submission) (o : Option (Bearer T))
    → is_some (bearer_submits k l s o) ≡ is_some o
submits_stay k l None o = refl
submits_stay k l (Some s) o = if_stays (s.lcid == l) s.side (told k (SduSubmitted s.octets)) o

happens_stay : {T : Type 0} (k : Keeper T) (l : ℕ) (side : Side) (event : Event) (o : Option (Bearer T))
    → is_some (bearer_happens k l side event o) ≡ is_some o
happens_stay k l side (events.Take lcid count len) o = if_stays (lcid == l) side (takes_pdu k count len) o
happens_stay k l side (events.Report lcid fms bitmap) o = if_stays (lcid == l) side (takes_report k fms bitmap) o
happens_stay k l side (events.Discard lcid len) o = if_stays (lcid == l) side (told k SduDiscarded) o
happens_stay k l side event o = refl

landed_stays : {T : Type 0} (k : Keeper T) (from : Side) (j : Keeping) (l : ℕ) (o : Option (Bearer T))
    → is_some (landed_on k from j l o) ≡ is_some o
landed_stays k from j l None = refl
landed_stays k from j l (Some b) = refl

ended_stays : {T : Type 0} (k : Keeper T) (j : Keeping) (l : ℕ) (o : Option (Bearer T))
    → is_some (ended_on k j l o) ≡ is_some o
ended_stays k j l None = refl
ended_stays k j l (Some b) = refl

told_stays : {T : Type 0} (k : Keeper T) (l : ℕ) (one : Record) (j : Keeping) (o : Option (Bearer T))
    → is_some (bearer_told k l one j o) ≡ is_some o
told_stays k l (records.Of side event) j o = happens_stay k l side event o
told_stays k l (records.Looped lcid octets) j o = if_stays (lcid == l) Ue (told k (SduSubmitted octets)) o
told_stays k l (records.Air direction Got heard) j o = landed_stays k (sender_of direction) j l o
told_stays k l (records.Air direction what heard) j o = refl
told_stays k l one j o = refl

record_stays : {T : Type 0} (k : Keeper T) (l : ℕ) (one : Record) (g : Giving T)
    → is_some (bearer_at l (after_record k one g).bearers) ≡ is_some (bearer_at l g.bearers)
record_stays k l one g =
    ap (λ (o : Option (Bearer _)). is_some o) (one_bearer_by_records _ k l one g)
    ∙ told_stays k l one (after_record k one g).kept
    (bearer_submits k l (unrefused one g.submitted) (bearer_at l g.bearers))
    ∙ submits_stay k l (unrefused one g.submitted) (bearer_at l g.bearers)

records_stay : {T : Type 0} (k : Keeper T) (l : ℕ) (rest : List Record) (g : Giving T)
    → is_some (bearer_at l (after_records k rest g).bearers) ≡ is_some (bearer_at l g.bearers)
records_stay k l [] g = refl
records_stay k l (one ∷ rest) g = records_stay k l rest (after_record k one g) ∙ record_stays k l one g

group_there : {T : Type 0} (k : Keeper T) (l : ℕ) (b : Bool) (c : OneChannel T)
    → is_some (one_group k l b c).bearer ≡ is_some c.bearer
group_there k l true c =
    ended_stays k (group_kept c.kept) l (bearer_submits k l c.submitted c.bearer)
    ∙ submits_stay k l c.submitted c.bearer
group_there k l false c = submits_stay k l c.submitted c.bearer

group_stays : {T : Type 0} (k : Keeper T) (l : ℕ) → l ≤ 10 → (g : Giving T) → HasChannels T g
    → is_some (bearer_at l (after_group k g).bearers) ≡ is_some (bearer_at l g.bearers)
group_stays k l low g h =
    ap (λ (x : OneChannel _). is_some x.bearer) ((one_channel_by_steps _ k).alone l g low h).group
    ∙ group_there k l g.hands_over (channel_in l g)

begun_data : {T : Type 0} (k : Keeper T) (kind : Kind) (first bits : ℕ)
    → is_some (bearer_begun k kind first bits) ≡ is_data kind
begun_data k bearers.Am first bits = refl
begun_data k kind first bits = refl

line_stands : {T : Type 0} (k : Keeper T) (l : ℕ) (line : Line) (o : Option (Bearer T)) (before : Option BearerConfig)
    → is_some o ≡ has_data before → is_some (bearer_by_line k l line o) ≡ has_data (bearer_by line l before)
line_stands k l (lines.Bearer config options) o before h = by (config.channel.lcid == l)
  where
    by : (b : Bool) → is_some (if b then bearer_begun k config.kind config.first config.pdcp_bits else o)
        ≡ has_data (if b then Some config else before)
    by true = begun_data k config.kind config.first config.pdcp_bits
    by false = h
line_stands k l line o before h = h

within_stands : {T : Type 0} (k : Keeper T) (l : ℕ) → l ≤ 10 → (now : Group) (past : List Group)
    → is_some (bearer_at l (all_given k past).bearers) ≡ has_data (bearer_on l past)
    → is_some (bearer_at l (given_within k now (all_given k past)).bearers) ≡ has_data (bearer_on l (now ∷ past))
within_stands k l low now past h =
    records_stay k l now.events (after_line k now.line (all_given k past))
    ∙ ap (λ (x : OneChannel _). is_some x.bearer)
    (((one_channel_by_steps _ k).alone l (all_given k past) low (given_has k past)).line now.line)
    ∙ line_stands k l now.line (bearer_at l (all_given k past).bearers) (bearer_on l past) h

given_stands : {T : Type 0} (k : Keeper T) (l : ℕ) → l ≤ 10 → (past : List Group)
    → is_some (bearer_at l (all_given k past).bearers) ≡ has_data (bearer_on l past)
given_stands k l low [] = ap (λ (o : Option (Bearer _)). is_some o) (none_at 11 l None)
given_stands k l low (now ∷ past) =
    group_stays k l low (given_within k now (all_given k past)) (within_has k now (all_given k past) (given_has k past))
    ∙ within_stands k l low now past (given_stands k l low past)

pub bearers_stand : (T : Type 0) (k : Keeper T) → BearersStand T k
bearers_stand T k l past low = record {
  behind = given_stands k l low past;
  within = λ now. within_stands k l low now past (given_stands k l low past);
}
