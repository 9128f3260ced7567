-- The new blocks of every journal have right form.
use Rattle.std.proofs.Common.{◌≡◌, ℕ, zero, suc, ◌+◌, ◌%◌, Bool, true, false, ◌⊎◌, inl, inr, List, [], ◌∷◌}
use Rattle.std.proofs.Common.{◌++◌, length, map, replicate, Option, Some, None, refl, ap, sym, ◌∙◌, subst, append-nil}
use Rattle.std.proofs.Common.{append_assoc}
use Rattle.std.specs.Prelude.{slice_index_or}
use Rattle.std.specs.List.{filter}
use Rattle.std.proofs.lemmas.Bool.{and_parts, true≢false}
use Rattle.std.proofs.lemmas.List.Elements.{filter-append, All-nil, All-cons, All-append}
use Rattle.l2_types.specs.declared.event.How.{How}
use Rattle.l2_types.specs.declared.side.Side.{Side}
use Rattle.l2_types.specs.declared.side.Side.TheVariants.{Nb, Ue}
use Rattle.mac_pdu.specs.declared.builder.Sdu.{Sdu}
use Rattle.mac_pdu.specs.declared.item.Bsr.{Bsr}
use Rattle.mac_pdu.specs.declared.item.Control.{Control}
use Rattle.mac_pdu.specs.Items.{MacItem, front, element, sdu, padding, sdu_item}
use Rattle.mac_pdu.specs.Reading.{reading}
use Rattle.mac_pdu.specs.Writing.{canonical}
use Rattle.bearer_types.specs.declared.event.Event.{Event}
use Rattle.bearer_types.specs.declared.event.Event.TheVariants.{Send}
use Rattle.bearer_types.specs.Sides.{sent_by}
use Rattle.air_record.specs.declared.line.Line.{Line}
use Rattle.air_record.specs.declared.line.Line.TheVariants as lines
use Rattle.air_record.specs.declared.record.Record.{Record}
use Rattle.air_record.specs.declared.record.Record.TheVariants as records
use Rattle.air_text.specs.Groups.{Group}
use Rattle.pdu_show.specs.declared.kinds.Layout.{Layout}
use Rattle.pdu_show.specs.Show.{block_shown}
use Rattle.law_words.specs.Sequences.{joined, many}
use Rattle.promises.specs.Air.{is_tti, ttis, InTurn}
use Rattle.promises.specs.Blocks.{kinds, kinds_by, MayShow, MayBuildBoth, AreTold}
use Rattle.promises.specs.Built.{reported, block_told, IsTold}
use Rattle.promises.specs.Names.{SentPdu, sent_pdus, Mode, IsNamed, AreNamed}
use Rattle.promises.specs.Order.{Channels}
use Rattle.promises.specs.Parts.{Part, Submits, Passes, Drains, Rests, part_of_line}
use Rattle.promises.specs.Records.{is_of_building, is_shown}
use Rattle.promises.specs.Shown.{IsKnownAs, AreKnown}
use Rattle.promises.specs.Telling.{LineTells, LinesTell, channels}
use Rattle.promises.specs.RightForm.{controls_in, sdus_in, unpadded, known_mode, mode_of, Carries, is_built}
use Rattle.promises.specs.RightForm.{send_record, IsBuilt, HasForm, FormIsRight}
use Rattle.promises.proofs.ShownBlocks.{AllShown, block_shows}
use Rattle.law_run.specs.Order.{KeepsOrder}
use Rattle.law_run.proofs.ShownAtOnce.{line_stands}

abbrev Form : Side → List (Option Layout) → List Record → Type 0
Form side kinds told = many (IsBuilt side kinds) told

abbrev named : Side → List SentPdu → List Record
named side sent = map (send_record side) sent

-- ---- the items of a block

controls_append : (a b : List MacItem) → controls_in (a ++ b) ≡ controls_in a ++ controls_in b
controls_append [] b = refl
controls_append (element control ∷ a) b = ap (λ (l : List Control). control ∷ l) (controls_append a b)
controls_append (item ∷ a) b = controls_append a b

sdus_append : (a b : List MacItem) → sdus_in (a ++ b) ≡ sdus_in a ++ sdus_in b
sdus_append [] b = refl
sdus_append (sdu lcid octets ∷ a) b =
    ap (λ (l : List Sdu). record { lcid = lcid; octets = octets } ∷ l) (sdus_append a b)
sdus_append (item ∷ a) b = sdus_append a b

fronts_hold : (n : ℕ) → (controls_in (replicate n front) ≡ []) × (sdus_in (replicate n front) ≡ [])
fronts_hold zero = (refl, refl)
fronts_hold (suc n) = fronts_hold n

ends_hold : (ends : List ℕ) → (controls_in (map padding ends) ≡ []) × (sdus_in (map padding ends) ≡ [])
ends_hold [] = (refl, refl)
ends_hold (n ∷ ends) = ends_hold ends

no_controls : (sdus : List Sdu) → controls_in (map sdu_item sdus) ≡ []
no_controls [] = refl
no_controls (d ∷ sdus) = no_controls sdus

own_sdus : (sdus : List Sdu) → sdus_in (map sdu_item sdus) ≡ sdus
own_sdus [] = refl
own_sdus (d ∷ sdus) = ap (λ (l : List Sdu). d ∷ l) (own_sdus sdus)

report_controls : (report : Option Bsr) → map element (controls_in (reported report)) ≡ reported report
report_controls None = refl
report_controls (Some r) = refl

report_sdus : (report : Option Bsr) → sdus_in (reported report) ≡ []
report_sdus None = refl
report_sdus (Some r) = refl

abbrev items_of : ℕ → Option Bsr → List Sdu → List ℕ → List MacItem
items_of fronts report sdus ends =
    replicate fronts front ++ ((reported report ++ map sdu_item sdus) ++ map padding ends)

controls_are : (fronts : ℕ) (report : Option Bsr) (sdus : List Sdu) (ends : List ℕ)
    → controls_in (items_of fronts report sdus ends) ≡ controls_in (reported report)
controls_are fronts report sdus ends =
    let middle = reported report ++ map sdu_item sdus in
    controls_append (replicate fronts front) (middle ++ map padding ends)
    ∙ ap (λ (l : List Control). l ++ controls_in (middle ++ map padding ends)) (fronts_hold fronts).0
    ∙ controls_append middle (map padding ends)
    ∙ ap (λ (l : List Control). controls_in middle ++ l) (ends_hold ends).0 ∙ append-nil (controls_in middle)
    ∙ controls_append (reported report) (map sdu_item sdus)
    ∙ ap (λ (l : List Control). controls_in (reported report) ++ l) (no_controls sdus)
    ∙ append-nil (controls_in (reported report))

sdus_are : (fronts : ℕ) (report : Option Bsr) (sdus : List Sdu) (ends : List ℕ)
    → sdus_in (items_of fronts report sdus ends) ≡ sdus
sdus_are fronts report sdus ends =
    let middle = reported report ++ map sdu_item sdus in
    sdus_append (replicate fronts front) (middle ++ map padding ends)
    ∙ ap (λ (l : List Sdu). l ++ sdus_in (middle ++ map padding ends)) (fronts_hold fronts).1
    ∙ sdus_append middle (map padding ends)
    ∙ ap (λ (l : List Sdu). sdus_in middle ++ l) (ends_hold ends).1 ∙ append-nil (sdus_in middle)
    ∙ sdus_append (reported report) (map sdu_item sdus)
    ∙ ap (λ (l : List Sdu). l ++ sdus_in (map sdu_item sdus)) (report_sdus report) ∙ own_sdus sdus

unpadded_are : (fronts : ℕ) (report : Option Bsr) (sdus : List Sdu) (ends : List ℕ)
    → unpadded (items_of fronts report sdus ends) ≡ reported report ++ map sdu_item sdus
unpadded_are fronts report sdus ends =
    ap (λ (l : List Control). map element l ++ map sdu_item (sdus_in (items_of fronts report sdus ends)))
    (controls_are fronts report sdus ends)
    ∙ ap (λ (l : List Sdu). map element (controls_in (reported report)) ++ map sdu_item l)
    (sdus_are fronts report sdus ends)
    ∙ ap (λ (l : List MacItem). l ++ map sdu_item sdus) (report_controls report)

-- ---- the bearers that are known

mode_known : (m : Option Mode) (o : Option Layout) (how : How) (sn : ℕ) (octets : List ℕ)
    → ((mode : Mode) → m ≡ Some mode → IsKnownAs o mode) → IsNamed m how sn octets
    → IsNamed (known_mode o) how sn octets
mode_known None o how sn octets k h = absurd h
mode_known (Some mode) None how sn octets k h = absurd (k mode refl)
mode_known (Some mode) (Some layout) how sn octets k h =
    subst (λ (x : Mode). IsNamed (Some x) how sn octets) (sym (k mode refl)) h

all_known : (kinds : List (Option Layout)) (modes : ℕ → Option Mode) (sent : List SentPdu) (sdus : List Sdu)
    → AreKnown kinds modes → AreNamed modes sent sdus → AreNamed (mode_of kinds) sent sdus
all_known kinds modes [] [] k h = tt
all_known kinds modes [] (d ∷ sdus) k h = absurd h
all_known kinds modes (s ∷ sent) [] k h = absurd h
all_known kinds modes (s ∷ sent) (d ∷ sdus) k h = (
  h.0,
  mode_known (modes s.lcid) (slice_index_or kinds s.lcid None) s.how s.sn d.octets (k s.lcid) h.1,
  all_known kinds modes sent sdus k h.2,
)

carries_told : (side : Side) (kinds : List (Option Layout)) (grant : ℕ) (events : List Event) (octets : List ℕ)
    → (h : IsTold side grant events octets) → AreKnown kinds h.modes
    → Carries (sent_by side) kinds (sent_pdus events) octets
carries_told side kinds grant events octets h k = record {
  items = items_of h.fronts h.report h.sdus h.ends;
  read = h.read;
  writing_is = h.writing_is
      ∙ ap (λ (l : List MacItem). canonical l grant) (sym (unpadded_are h.fronts h.report h.sdus h.ends))
      ∙ ap (canonical (unpadded (items_of h.fronts h.report h.sdus h.ends))) (sym h.size_is);
  named = subst (AreNamed (mode_of kinds) (sent_pdus events)) (sym (sdus_are h.fronts h.report h.sdus h.ends))
      (all_known kinds h.modes (sent_pdus events) h.sdus k h.named);
}

-- ---- what is told of a block

not_built : (side : Side) (one : Record) → is_shown one ≡ true → is_built side one ≡ false
not_built side (records.Of s (Send lcid how sn)) e = absurd (true≢false (sym e))
not_built side (records.Block direction process fresh version octets) e = absurd (true≢false (sym e))
not_built side one e = refl

none_built : (side : Side) (l : List Record) → AllShown l → filter (is_built side) l ≡ []
none_built side [] all = refl
none_built side (one ∷ l) all = rw (not_built side one all.0) (none_built side l all.1)

own_events : (side : Side) (events : List Event)
    → filter (is_built side) (map (records.Of side) events) ≡ named side (sent_pdus events)
own_events side [] = refl
own_events Nb (Send lcid how sn ∷ events) =
    ap (λ (l : List Record). records.Of Nb (Send lcid how sn) ∷ l) (own_events Nb events)
own_events Ue (Send lcid how sn ∷ events) =
    ap (λ (l : List Record). records.Of Ue (Send lcid how sn) ∷ l) (own_events Ue events)
own_events side (event ∷ events) = own_events side events

nb_of_ue : (events : List Event) → filter (is_built Nb) (map (records.Of Ue) events) ≡ []
nb_of_ue [] = refl
nb_of_ue (Send lcid how sn ∷ events) = nb_of_ue events
nb_of_ue (event ∷ events) = nb_of_ue events

ue_of_nb : (events : List Event) → filter (is_built Ue) (map (records.Of Nb) events) ≡ []
ue_of_nb [] = refl
ue_of_nb (Send lcid how sn ∷ events) = ue_of_nb events
ue_of_nb (event ∷ events) = ue_of_nb events

shown_none : (of side : Side) (kinds : List (Option Layout)) (octets : List ℕ)
    → filter (is_built of) (block_shown (sent_by side) kinds octets) ≡ []
shown_none of side kinds octets =
    none_built of (block_shown (sent_by side) kinds octets) (block_shows kinds (reading (sent_by side) octets))

own_block : (side : Side) (t : ℕ) (kinds : List (Option Layout)) (octets : List ℕ)
    → filter (is_built side) (block_told side t kinds octets)
    ≡ records.Block (sent_by side) (t % 8) true 0 octets ∷ []
own_block Nb t kinds octets =
    ap (λ (l : List Record). records.Block (sent_by Nb) (t % 8) true 0 octets ∷ l) (shown_none Nb Nb kinds octets)
own_block Ue t kinds octets =
    ap (λ (l : List Record). records.Block (sent_by Ue) (t % 8) true 0 octets ∷ l) (shown_none Ue Ue kinds octets)

own_told : (side : Side) (t : ℕ) (kinds : List (Option Layout)) (events : List Event) (octets : List ℕ)
    → filter (is_built side) (map (records.Of side) events ++ block_told side t kinds octets)
    ≡ named side (sent_pdus events) ++ records.Block (sent_by side) (t % 8) true 0 octets ∷ []
own_told side t kinds events octets =
    filter-append (is_built side) (map (records.Of side) events) (block_told side t kinds octets)
    ∙ ap (λ (l : List Record). l ++ filter (is_built side) (block_told side t kinds octets)) (own_events side events)
    ∙ ap (λ (l : List Record). named side (sent_pdus events) ++ l) (own_block side t kinds octets)

-- ---- its form

empty : (side : Side) (kinds : List (Option Layout)) (told : List Record) → told ≡ [] → Form side kinds told
empty side kinds told e = record { parts = []; told_are = e; are_each = All-nil (IsBuilt side kinds) }

one_part : (side : Side) (kinds : List (Option Layout)) (told : List Record) → IsBuilt side kinds told
    → Form side kinds told
one_part side kinds told h = record {
  parts = told ∷ [];
  told_are = sym (append-nil told);
  are_each = All-cons (IsBuilt side kinds) told [] h (All-nil (IsBuilt side kinds));
}

joined_append : (a b : List (List Record)) → joined (a ++ b) ≡ joined a ++ joined b
joined_append [] b = refl
joined_append (x ∷ a) b =
    ap (λ (l : List Record). x ++ l) (joined_append a b) ∙ sym (append_assoc x (joined a) (joined b))

both : (side : Side) (kinds : List (Option Layout)) (a b : List Record) → Form side kinds a → Form side kinds b
    → Form side kinds (a ++ b)
both side kinds a b p q = record {
  parts = p.parts ++ q.parts;
  told_are = ap (λ (l : List Record). l ++ b) p.told_are ∙ ap (λ (l : List Record). joined p.parts ++ l) q.told_are
      ∙ sym (joined_append p.parts q.parts);
  are_each = All-append (IsBuilt side kinds) p.parts q.parts p.are_each q.are_each;
}

abbrev Has : Side → List (Option Layout) → List Record → Type 0
Has side kinds told = Form side kinds (filter (is_built side) told)

own_form : (side : Side) (t grant : ℕ) (kinds : List (Option Layout)) (told : List Record)
    → MayShow side t grant kinds told → Has side kinds told
own_form side t grant kinds told (inl e) =
    empty side kinds (filter (is_built side) told) (ap (filter (is_built side)) e)
own_form side t grant kinds told (inr h) =
    let b = h.block in
    let is : filter (is_built side) told
    ≡ named side (sent_pdus b.events) ++ records.Block (sent_by side) (t % 8) true 0 b.octets ∷ [] =
    ap (filter (is_built side)) b.told_is ∙ own_told side t kinds b.events b.octets in
    one_part side kinds (filter (is_built side) told) (record {
      sent = sent_pdus b.events;
      process = t % 8;
      version = 0;
      octets = b.octets;
      told_is = is;
      carries = carries_told side kinds grant b.events b.octets b.block_is h.known;
    })

nb_in_ue : (t grant : ℕ) (kinds : List (Option Layout)) (told : List Record) → MayShow Ue t grant kinds told
    → filter (is_built Nb) told ≡ []
nb_in_ue t grant kinds told (inl e) = ap (filter (is_built Nb)) e
nb_in_ue t grant kinds told (inr h) =
    let b = h.block in
    ap (filter (is_built Nb)) b.told_is
    ∙ filter-append (is_built Nb) (map (records.Of Ue) b.events) (block_told Ue t kinds b.octets)
    ∙ ap (λ (l : List Record). l ++ filter (is_built Nb) (block_told Ue t kinds b.octets)) (nb_of_ue b.events)
    ∙ shown_none Nb Ue kinds b.octets

ue_in_nb : (t grant : ℕ) (kinds : List (Option Layout)) (told : List Record) → MayShow Nb t grant kinds told
    → filter (is_built Ue) told ≡ []
ue_in_nb t grant kinds told (inl e) = ap (filter (is_built Ue)) e
ue_in_nb t grant kinds told (inr h) =
    let b = h.block in
    ap (filter (is_built Ue)) b.told_is
    ∙ filter-append (is_built Ue) (map (records.Of Nb) b.events) (block_told Nb t kinds b.octets)
    ∙ ap (λ (l : List Record). l ++ filter (is_built Ue) (block_told Nb t kinds b.octets)) (ue_of_nb b.events)
    ∙ shown_none Ue Nb kinds b.octets

split_form : (side : Side) (kinds : List (Option Layout)) (a b : List Record) → Has side kinds a → Has side kinds b
    → Has side kinds (a ++ b)
split_form side kinds a b p q =
    subst (Form side kinds) (sym (filter-append (is_built side) a b))
    (both side kinds (filter (is_built side) a) (filter (is_built side) b) p q)

tti_form : (side : Side) (t up_grant down_grant : ℕ) (kinds : List (Option Layout)) (told : List Record)
    → MayBuildBoth t up_grant down_grant kinds told → Has side kinds told
tti_form Nb t up_grant down_grant kinds told h =
    subst (Has Nb kinds) (sym h.told_is)
    (split_form Nb kinds h.downward h.upward (own_form Nb t down_grant kinds h.downward h.down)
    (empty Nb kinds (filter (is_built Nb) h.upward) (nb_in_ue t up_grant kinds h.upward h.up)))
tti_form Ue t up_grant down_grant kinds told h =
    subst (Has Ue kinds) (sym h.told_is)
    (split_form Ue kinds h.downward h.upward
    (empty Ue kinds (filter (is_built Ue) h.downward) (ue_in_nb t down_grant kinds h.downward h.down))
    (own_form Ue t up_grant kinds h.upward h.up))

turns_form : (side : Side) (grant n t : ℕ) (kinds : List (Option Layout)) (told : List Record)
    → InTurn (λ m. MayBuildBoth m grant grant kinds) t n told → Has side kinds told
turns_form side grant zero t kinds told e =
    empty side kinds (filter (is_built side) told) (ap (filter (is_built side)) e)
turns_form side grant (suc n) t kinds told h =
    subst (Has side kinds) (sym h.told_are)
    (split_form side kinds h.first h.second (tti_form side t grant grant kinds h.first h.is_first)
    (turns_form side grant n (t + 1) kinds h.second h.is_second))

-- ---- among the other records

is_building : (side : Side) (one : Record) → is_built side one ≡ true → is_of_building one ≡ true
is_building side (records.Of s (Send lcid how sn)) e = refl
is_building side (records.Block direction process fresh version octets) e = (and_parts fresh _ e).0
is_building side one e = absurd (true≢false (sym e))

within : (side : Side) (told : List Record)
    → filter (is_built side) (filter is_of_building told) ≡ filter (is_built side) told
within side [] = refl
within side (one ∷ told) = by (is_of_building one) (is_built side one) refl refl (within side told)
  where
    by : (b i : Bool) → is_of_building one ≡ b → is_built side one ≡ i
        → filter (is_built side) (filter is_of_building told) ≡ filter (is_built side) told
        → filter (is_built side) (filter is_of_building (one ∷ told)) ≡ filter (is_built side) (one ∷ told)
    by true true e f next = rw (e, f) (ap (λ (l : List Record). one ∷ l) next)
    by true false e f next = rw (e, f) next
    by false false e f next = rw (e, f) next
    by false true e f next = absurd (true≢false (sym (is_building side one f) ∙ e))

told_form : (side : Side) (t : ℕ) (p : Part) (kinds : List (Option Layout)) (events : List Record)
    → AreTold t kinds p events → Has side kinds (filter is_of_building events)
told_form side t (Submits s lcid octets) kinds events e =
    empty side kinds (filter (is_built side) (filter is_of_building events)) (ap (filter (is_built side)) e)
told_form side t (Passes up_grant up down_grant down) kinds events h =
    tti_form side t up_grant down_grant kinds (filter is_of_building events) h
told_form side t (Drains grant) kinds events h =
    turns_form side grant (length (filter is_tti events)) t kinds (filter is_of_building events) h
told_form side t Rests kinds events e =
    empty side kinds (filter (is_built side) (filter is_of_building events)) (ap (filter (is_built side)) e)

group_form : (line : Line) (t : ℕ) (kinds : List (Option Layout)) (c : Side → Channels) (events : List Record)
    → LineTells t kinds c line events → AreTold t kinds (part_of_line line) events → HasForm kinds events
group_form line t kinds c events l a = record {
  down = subst (Form Nb kinds) (within Nb events) (told_form Nb t (part_of_line line) kinds events a);
  up = subst (Form Ue kinds) (within Ue events) (told_form Ue t (part_of_line line) kinds events a);
  shown_is = line_stands line t kinds c events l;
}

-- ---- a line of a bearer tells nothing

no_events : (kinds : List (Option Layout)) (events : List Record) → events ≡ [] → HasForm kinds events
no_events kinds events e =
    subst (HasForm kinds) (sym e)
    (record { down = empty Nb kinds [] refl; up = empty Ue kinds [] refl; shown_is = refl })

same_or_none : (line : Line) (t : ℕ) (kinds : List (Option Layout)) (c : Side → Channels) (events : List Record)
    → LineTells t kinds c line events → (kinds ≡ kinds_by line kinds) ⊎ (events ≡ [])
same_or_none (lines.Bearer config options) t kinds c events h = inr h
same_or_none line t kinds c events h = inl refl

pub form_is_right : (past : List Group) → KeepsOrder past → LinesTell past → FormIsRight past
form_is_right [] order tells = tt
form_is_right (g ∷ past) order tells = (
  by (same_or_none g.line (ttis past) (kinds past) (λ side. channels past) g.events tells.0),
  form_is_right past order.1 tells.1,
)
  where
    by : (kinds past ≡ kinds_by g.line (kinds past)) ⊎ (g.events ≡ []) → HasForm (kinds (g ∷ past)) g.events
    by (inl e) =
        subst (λ (k : List (Option Layout)). HasForm k g.events) e
        (group_form g.line (ttis past) (kinds past) (λ side. channels past) g.events tells.0 order.0.blocks)
    by (inr e) = no_events (kinds (g ∷ past)) g.events e
