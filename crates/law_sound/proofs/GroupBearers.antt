-- What stands of a channel with an acknowledged bearer in a group: how its PDUs are read, and its bearers as they come.
use Rattle.std.proofs.Common.{◌≡◌, ◌≤◌, ℕ, true, List, [], ◌∷◌}
use Rattle.std.proofs.Common.{Some, None, refl, ap, ◌∙◌}
use Rattle.std.specs.Prelude.{slice_index_or}
use Rattle.std.specs.List.{AllByRecursion, filter}
use Rattle.std.proofs.lemmas.Bool.{eqb-true}
use Rattle.air_record.specs.declared.record.Record.{Record}
use Rattle.air_record.specs.declared.record.Record.TheVariants as records
use Rattle.air_text.specs.Groups.{Group}
use Rattle.bearer.specs.Acknowledged.State.{State, fresh as fresh_am}
use Rattle.bearer.specs.Bearer.{flow_of}
use Rattle.bearer_pdcp.specs.Ends.{begun as begun_ends}
use Rattle.bearer.specs.declared.flow.Flow.TheVariants.{Am}
use Rattle.bearer_types.specs.declared.config.BearerConfig.{BearerConfig}
use Rattle.bearer_types.specs.declared.event.Event.{Event}
use Rattle.bearer_types.specs.declared.event.Event.TheVariants as events
use Rattle.eps_sec.specs.declared.Keys.{Keys}
use Rattle.l2_node.specs.End.{End}
use Rattle.l2_types.specs.declared.channel.Kind.{Kind}
use Rattle.l2_types.specs.declared.channel.Kind.TheVariants as bearers
use Rattle.l2_types.specs.declared.side.Side.{Side}
use Rattle.l2_types.specs.declared.side.Side.TheVariants.{Nb, Ue}
use Rattle.law_words.specs.Sequences.{many}
use Rattle.promises.specs.Blocks.{kinds}
use Rattle.promises.specs.Bearers.{IsCounted, TellsCount}
use Rattle.promises.specs.Configs.{config_of}
use Rattle.promises.specs.Events.{is_on}
use Rattle.promises.specs.Names.{Acknowledged}
use Rattle.promises.specs.RightForm.{is_built, IsBuilt, HasForm}
use Rattle.pdcp_pdu.specs.declared.pdu.PdcpKind.{PdcpKind}
use Rattle.pdcp_pdu.specs.declared.pdu.PdcpKind.TheVariants as pdcp
use Rattle.pdu_show.specs.Kinds.{layout_of}
use Rattle.pdu_show.specs.declared.kinds.Layout.TheVariants as layouts
use Rattle.law_deliver.specs.AmChannel.Delivery.{HasBegun}
use Rattle.law_deliver.specs.AmFlow.Air.{Begins}
use Rattle.law_deliver.specs.AmFlow.Flows.{BeginsLife}
use Rattle.law_node.specs.Holding.{flow}
use Rattle.law_node.specs.Names.{mode}
use Rattle.law_run.specs.Order.{KeepsOrder}
use Rattle.law_run.specs.TwoEnds.Lived.{IsAcknowledged}
use Rattle.law_run.proofs.CountsTold.{counts_are_told}
use Rattle.law_run.proofs.RightForm.{form_is_right}
use Rattle.law_run.proofs.Standing.{lines_tell}
use Rattle.law_sound.specs.GatherLaws.{HasCount}
use Rattle.law_sound.specs.StepReading.{HasCountOn, AreFormed}
use Rattle.law_sound.proofs.GroupKinds.{layout_by, are_kinds}

-- ---- how PDUs of an acknowledged channel are read, and what is told of COUNTs

abbrev pub of_kind : Kind → ℕ → PdcpKind
of_kind bearers.Srb bits = pdcp.Srb
of_kind kind bits = pdcp.Am bits

layout_is : (kind : Kind) (rlc bits : ℕ) → IsAcknowledged kind
    → Some (layout_of kind rlc bits) ≡ Some (layouts.Am (of_kind kind bits))
layout_is bearers.Tm rlc bits h = absurd h
layout_is bearers.Srb rlc bits h = refl
layout_is bearers.Um rlc bits h = absurd h
layout_is bearers.Am rlc bits h = refl

pub known_at : (past : List Group) (l : ℕ) (c : BearerConfig) → l ≤ 10 → config_of l past ≡ Some c
    → IsAcknowledged c.kind
    → slice_index_or (kinds past) l None ≡ Some (layouts.Am (of_kind c.kind c.pdcp_bits))
known_at past l c low is acked =
    (are_kinds past).is l low ∙ (ap layout_by is ∙ layout_is c.kind c.rlc_bits c.pdcp_bits acked)

event_count : (bits l : ℕ) (e : Event) → IsCounted l e → is_on l e ≡ true → HasCount (pdcp.Am bits) e
event_count bits l (events.Take lcid None len) h on = tt
event_count bits l (events.Take lcid (Some count) len) h on = h (eqb-true lcid l on)
event_count bits l e h on = tt

record_counts : (bits l : ℕ) (told : List Record) → AllByRecursion (TellsCount l) told
    → AllByRecursion (HasCountOn (pdcp.Am bits) l) told
record_counts bits l [] h = tt
record_counts bits l (records.Of side e ∷ told) h = (event_count bits l e h.0, record_counts bits l told h.1)
record_counts bits l (one ∷ told) h = (tt, record_counts bits l told h.1)

signal_counts : (l : ℕ) (told : List Record) → AllByRecursion (HasCountOn pdcp.Srb l) told
signal_counts l [] = tt
signal_counts l (records.Of side e ∷ told) = (λ on. tt, signal_counts l told)
signal_counts l (one ∷ told) = (tt, signal_counts l told)

counts_by : (kind : Kind) (bits l : ℕ) (told : List Record) → IsAcknowledged kind
    → (kind ≡ bearers.Am → AllByRecursion (TellsCount l) told)
    → AllByRecursion (HasCountOn (of_kind kind bits) l) told
counts_by bearers.Tm bits l told acked h = absurd acked
counts_by bearers.Srb bits l told acked h = signal_counts l told
counts_by bearers.Um bits l told acked h = absurd acked
counts_by bearers.Am bits l told acked h = record_counts bits l told (h refl)

pub counts_at : (past : List Group) (g : Group) (l : ℕ) (c : BearerConfig) → KeepsOrder (g ∷ past)
    → config_of l (g ∷ past) ≡ Some c → IsAcknowledged c.kind
    → AllByRecursion (HasCountOn (of_kind c.kind c.pdcp_bits) l) g.events
counts_at past g l c order is acked =
    counts_by c.kind c.pdcp_bits l g.events acked (λ kind. (counts_are_told (g ∷ past) order).0 l c is kind)

pub formed_at : (past : List Group) (g : Group) → KeepsOrder (g ∷ past) → AreFormed (kinds (g ∷ past)) g.events
formed_at past g order side = by side
  where
    form : HasForm (kinds (g ∷ past)) g.events
    form = (form_is_right (g ∷ past) order (lines_tell (g ∷ past) order)).0

    by : (side : Side) → many (IsBuilt side (kinds (g ∷ past))) (filter (is_built side) g.events)
    by Nb = form.down
    by Ue = form.up

-- ---- a bearer that comes

begins_life : (c : BearerConfig) (kind : PdcpKind) (keys : Keys) (side : Side) → BeginsLife (fresh_am c kind keys side)
unfolding fresh_am
begins_life c kind keys side = record { sends = refl; hears = refl }

abbrev pub first_bearer : BearerConfig → Keys → Side → State
first_bearer c keys side = fresh_am c (of_kind c.kind c.pdcp_bits) keys side

first_is : (kind : Kind) (c : BearerConfig) (keys : Keys) (side : Side) → IsAcknowledged kind
    → flow_of kind c keys side ≡ Am (fresh_am c (of_kind kind c.pdcp_bits) keys side)
first_is bearers.Tm c keys side h = absurd h
first_is bearers.Srb c keys side h = refl
first_is bearers.Um c keys side h = absurd h
first_is bearers.Am c keys side h = refl

first_kind : (c : BearerConfig) (kind : PdcpKind) (keys : Keys) (side : Side)
    → (fresh_am c kind keys side).pdcp.kind ≡ kind
unfolding fresh_am begun_ends
first_kind c kind keys side = refl

pub begins_at : (side : Side) (c : BearerConfig) (keys : Keys) (e : End) → IsAcknowledged c.kind
    → HasBegun side c.channel.lcid c keys e → Begins side c.channel.lcid e (first_bearer c keys side)
begins_at side c keys e acked h = record {
  come = h.come;
  there = h.there;
  bearer_is = h.bearer_is ∙ first_is c.kind c keys side acked;
  life = begins_life c (of_kind c.kind c.pdcp_bits) keys side;
}

pub mode_at : (side : Side) (c : BearerConfig) (keys : Keys) (e : End) → IsAcknowledged c.kind
    → HasBegun side c.channel.lcid c keys e
    → mode (flow c.channel.lcid e) ≡ Acknowledged (of_kind c.kind c.pdcp_bits)
mode_at side c keys e acked h =
    ap mode (h.bearer_is ∙ first_is c.kind c keys side acked)
    ∙ ap Acknowledged (first_kind c (of_kind c.kind c.pdcp_bits) keys side)
