-- What is gathered goes on alone on each channel.
use Rattle.std.proofs.Common.{◌≡◌, ℕ, zero, suc, ◌+◌, ◌-◌, ◌≤◌, ◌==◌, Bool, true, false, List, [], ◌∷◌, length}
use Rattle.std.proofs.Common.{Option, Some, None, inl, inr, refl, ap, sym, ◌∙◌, arith, if◌then◌else◌}
use Rattle.std.proofs.Common.{slice_set, slice_index_or}
use Rattle.std.specs.Prelude.{option_map, replicate}
use Rattle.std.proofs.lemmas.Bool.{cases_eq, eq-eqb, ne_eqb}
use Rattle.std.proofs.lemmas.List.{length-set, get_or-set_same, get_or-set_other, get_or_past}
use Rattle.l2_types.specs.declared.side.Side.{Side}
use Rattle.l2_types.specs.declared.side.Side.TheVariants.{Nb, Ue}
use Rattle.bearer_types.specs.declared.event.Event.{Event}
use Rattle.bearer_types.specs.declared.event.Event.TheVariants as events
use Rattle.bearer_types.specs.Sides.{sender_of}
use Rattle.air_record.specs.declared.line.Line.{Line}
use Rattle.air_record.specs.declared.line.Line.TheVariants as lines
use Rattle.air_record.specs.declared.record.Arrived.TheVariants.{Got}
use Rattle.air_record.specs.declared.record.Record.{Record}
use Rattle.air_record.specs.declared.record.Record.TheVariants as records
use Rattle.air_record.specs.declared.submission.Submission.{Submission}
use Rattle.air_record.specs.Submissions.{unrefused}
use Rattle.journal_takes.specs.TakeEvents.{SduSubmitted, SduDiscarded}
use Rattle.journal_flows.specs.FlowsTold.{is_at}
use Rattle.journal_flows.specs.Accounts.{Keeping, after_record as record_kept, after_group as group_kept}
use Rattle.journal_given.specs.Supplies.{Keeper, Supply, Bearer, told, takes_pdu, takes_report}
use Rattle.journal_given.specs.Giving.{Giving, Bearers, on_side, bearer_begun, bearer_at, changed_on, each_from}
use Rattle.journal_given.specs.Giving.{landed_on, ended_on, Waits, waits_at, with_waits, bearers_by, waits_by}
use Rattle.journal_given.specs.Giving.{may_take, submits_own, with_submitted, line_submitted, settled, happens, tells}
use Rattle.journal_given.specs.Giving.{with_kept, after_record, after_line, hands_on, at_rest, after_group}
use Rattle.journal_given.proofs.Ties.{own_keeps, settled_keeps, record_keeps}
use Rattle.law_given.specs.OneBearer.{changed_if, bearer_submits, bearer_happens, bearer_told, bearer_behind}
use Rattle.law_given.specs.OneBearer.{bearer_by_line, waits_submits, waits_happens, waits_told, waits_by_line}
use Rattle.law_given.specs.OneBearer.{OneChannel, channel_in, one_submitted, one_settled, one_told, one_record}
use Rattle.law_given.specs.OneBearer.{one_line, one_ended, one_group, OneBearerByRecords}
use Rattle.law_given.specs.OneBearer.{HasChannels, OneChannelBySteps}

-- ---- places of a list

pub none_at : {A : Type 0} (n l : ℕ) (d : A) → slice_index_or (replicate n d) l d ≡ d
none_at zero l d = refl
none_at (suc n) zero d = refl
none_at (suc n) (suc l) d = none_at n l d

placed : {A : Type 0} (lcid l : ℕ) (x d : A) (xs : List A) → length xs ≡ 11 → l ≤ 10
    → slice_index_or (slice_set xs lcid x) l d ≡ (if lcid == l then x else slice_index_or xs l d)
placed lcid l x d xs size low = elim (cases_eq l lcid) [
  | inl here ↦
      ap (λ (n : ℕ). slice_index_or (slice_set xs n x) l d) (sym here)
      ∙ get_or-set_same xs l x d (omega (arith, size, low))
      ∙ ap (λ (b : Bool). if b then x else slice_index_or xs l d) (sym (eq-eqb lcid l (sym here)))
  | inr apart ↦
      get_or-set_other xs lcid l x d apart
      ∙ ap (λ (b : Bool). if b then x else slice_index_or xs l d) (sym (ne_eqb lcid l (λ same. apart (sym same))))
]

counted : (f : ℕ → ℕ) (lcid l : ℕ) (xs : List ℕ) → length xs ≡ 11 → l ≤ 10
    → slice_index_or (slice_set xs lcid (f (slice_index_or xs lcid 0))) l 0
    ≡ (if lcid == l then f (slice_index_or xs l 0) else slice_index_or xs l 0)
counted f lcid l xs size low = elim (cases_eq l lcid) [
  | inl here ↦
      ap (λ (n : ℕ). slice_index_or (slice_set xs n (f (slice_index_or xs n 0))) l 0) (sym here)
      ∙ get_or-set_same xs l (f (slice_index_or xs l 0)) 0 (omega (arith, size, low))
      ∙ ap (λ (b : Bool). if b then f (slice_index_or xs l 0) else slice_index_or xs l 0)
      (sym (eq-eqb lcid l (sym here)))
  | inr apart ↦
      get_or-set_other xs lcid l (f (slice_index_or xs lcid 0)) 0 apart
      ∙ ap (λ (b : Bool). if b then f (slice_index_or xs l 0) else slice_index_or xs l 0)
      (sym (ne_eqb lcid l (λ same. apart (sym same))))
]

-- no premise on the length: without a bearer there's none to change
same_at : {A : Type 0} (f : A → A) (xs : List (Option A)) (at : ℕ)
    → slice_index_or (slice_set xs at (option_map f (slice_index_or xs at None))) at None
    ≡ option_map f (slice_index_or xs at None)
same_at f [] at = refl
same_at f (x ∷ xs) zero = refl
same_at f (x ∷ xs) (suc at) = same_at f xs at

changed_at : {T : Type 0} (side : Side) (lcid l : ℕ) (f : Supply T → Supply T) (bs : Bearers T)
    → bearer_at l (changed_on side lcid f bs) ≡ changed_if (lcid == l) side f (bearer_at l bs)
changed_at side lcid l f bs = elim (cases_eq l lcid) [
  | inl here ↦
      ap (λ (n : ℕ). bearer_at l (changed_on side n f bs)) (sym here)
      ∙ same_at (on_side side f) bs l
      ∙ ap (λ (b : Bool). changed_if b side f (bearer_at l bs)) (sym (eq-eqb lcid l (sym here)))
  | inr apart ↦
      get_or-set_other bs lcid l (option_map (on_side side f) (bearer_at lcid bs)) None apart
      ∙ ap (λ (b : Bool). changed_if b side f (bearer_at l bs)) (sym (ne_eqb lcid l (λ same. apart (sym same))))
]

each_at : {A : Type 0} (f : ℕ → Option A → Option A) → ((n : ℕ) → f n None ≡ None) → (from l : ℕ)
    (xs : List (Option A))
    → slice_index_or (each_from f from xs) l None ≡ f (from + l) (slice_index_or xs l None)
each_at f none from l [] = sym (none (from + l))
each_at f none from zero (x ∷ xs) =
    let here : from ≡ from + zero = omega arith in
    ap (λ (n : ℕ). f n x) here
each_at f none from (suc l) (x ∷ xs) =
    let next : from + 1 + l ≡ from + suc l = omega arith in
    each_at f none (from + 1) l xs ∙ ap (λ (n : ℕ). f n (slice_index_or xs l None)) next

each_here : {A : Type 0} (f : ℕ → Option A → Option A) → ((n : ℕ) → f n None ≡ None) → (l : ℕ)
    (xs : List (Option A)) → slice_index_or (each_from f 0 xs) l None ≡ f l (slice_index_or xs l None)
each_here f none l xs =
    let here : 0 + l ≡ l = omega arith in
    each_at f none 0 l xs ∙ ap (λ (n : ℕ). f n (slice_index_or xs l None)) here

each_length : {A : Type 0} (f : ℕ → A → A) (from : ℕ) (xs : List A) → length (each_from f from xs) ≡ length xs
each_length f from [] = refl
each_length f from (x ∷ xs) = ap suc (each_length f (from + 1) xs)

-- ---- a bearer

own_at : {T : Type 0} (k : Keeper T) (l : ℕ) (o : Option Submission) (g : Giving T)
    → bearer_at l (submits_own k o g).bearers ≡ bearer_submits k l o (bearer_at l g.bearers)
own_at k l None g = refl
own_at k l (Some s) g = changed_at s.side s.lcid l (told k (SduSubmitted s.octets)) g.bearers

happens_at : {T : Type 0} (k : Keeper T) (l : ℕ) (side : Side) (event : Event) (g : Giving T)
    → bearer_at l (happens k side event g).bearers ≡ bearer_happens k l side event (bearer_at l g.bearers)
happens_at k l side (events.Take lcid count len) g = changed_at side lcid l (takes_pdu k count len) g.bearers
happens_at k l side (events.Report lcid fms bitmap) g = changed_at side lcid l (takes_report k fms bitmap) g.bearers
happens_at k l side (events.Discard lcid len) g = changed_at side lcid l (told k SduDiscarded) g.bearers
happens_at k l side event g = refl

tells_at : {T : Type 0} (k : Keeper T) (l : ℕ) (one : Record) (g : Giving T)
    → bearer_at l (tells k one g).bearers ≡ bearer_told k l one g.kept (bearer_at l g.bearers)
tells_at k l (records.Of side event) g = happens_at k l side event g
tells_at k l (records.Looped lcid octets) g = changed_at Ue lcid l (told k (SduSubmitted octets)) g.bearers
tells_at k l (records.Air direction Got heard) g =
    each_here (landed_on k (sender_of direction) g.kept) (λ n. refl) l g.bearers
tells_at k l (records.Air direction what heard) g = refl
tells_at k l one g = refl

record_at : {T : Type 0} (k : Keeper T) (l : ℕ) (one : Record) (g : Giving T)
    → bearer_at l (after_record k one g).bearers
    ≡ bearer_behind k l one g.submitted (record_kept (may_take k one (settled k one g)) one g.kept)
    (bearer_at l g.bearers)
record_at k l one g =
    let s = settled k one g in
    tells_at k l one (with_kept (record_kept (may_take k one (settled k one g)) one s.kept) (settled k one g))
    ∙ ap (λ (kept : Keeping). bearer_told k l one (record_kept (may_take k one (settled k one g)) one kept)
    (bearer_at l (settled k one g).bearers)) (settled_keeps k one g)
    ∙ ap (bearer_told k l one (record_kept (may_take k one (settled k one g)) one g.kept))
    (own_at k l (unrefused one g.submitted) (with_submitted (unrefused one g.submitted) g))

pub one_bearer_by_records : (T : Type 0) (k : Keeper T) → OneBearerByRecords T k
one_bearer_by_records T k l one g =
    record_at k l one g
    ∙ ap (λ (kept : Keeping). bearer_behind k l one g.submitted kept (bearer_at l g.bearers))
    (sym (record_keeps k one g))

-- ---- SDUs that wait

moved : (f : ℕ → ℕ) (s side : Side) (lcid l : ℕ) (w : Waits) → length w.nb ≡ 11 → length w.ue ≡ 11 → l ≤ 10
    → waits_at side l (with_waits s lcid (f (waits_at s lcid w)) w)
    ≡ (if is_at s lcid side l then f (waits_at side l w) else waits_at side l w)
moved f Nb Nb lcid l w nb ue low = counted f lcid l w.nb nb low
moved f Nb Ue lcid l w nb ue low = refl
moved f Ue Nb lcid l w nb ue low = refl
moved f Ue Ue lcid l w nb ue low = counted f lcid l w.ue ue low

own_wait : {T : Type 0} (k : Keeper T) (side : Side) (l : ℕ) (o : Option Submission) (g : Giving T)
    → HasChannels T g → l ≤ 10
    → waits_at side l (submits_own k o g).waits ≡ waits_submits side l o (waits_at side l g.waits)
own_wait k side l None g h low = refl
own_wait k side l (Some s) g h low =
    moved (λ (n : ℕ). n + 1) s.side side s.lcid l g.waits h.nb_waits h.ue_waits low

happens_wait : {T : Type 0} (k : Keeper T) (side : Side) (l : ℕ) (from : Side) (event : Event) (g : Giving T)
    → HasChannels T g → l ≤ 10
    → waits_at side l (happens k from event g).waits ≡ waits_happens side l from event (waits_at side l g.waits)
happens_wait k side l from (events.Take lcid count len) g h low =
    moved (λ (n : ℕ). n - 1) from side lcid l g.waits h.nb_waits h.ue_waits low
happens_wait k side l from (events.Discard lcid len) g h low =
    moved (λ (n : ℕ). n - 1) from side lcid l g.waits h.nb_waits h.ue_waits low
happens_wait k side l from event g h low = refl

tells_wait : {T : Type 0} (k : Keeper T) (side : Side) (l : ℕ) (one : Record) (g : Giving T) → HasChannels T g
    → l ≤ 10 → waits_at side l (tells k one g).waits ≡ waits_told side l one (waits_at side l g.waits)
tells_wait k side l (records.Of from event) g h low = happens_wait k side l from event g h low
tells_wait k side l (records.Looped lcid octets) g h low =
    moved (λ (n : ℕ). n + 1) Ue side lcid l g.waits h.nb_waits h.ue_waits low
tells_wait k side l (records.Air direction Got heard) g h low = refl
tells_wait k side l (records.Air direction what heard) g h low = refl
tells_wait k side l one g h low = refl

happens_submitted : {T : Type 0} (k : Keeper T) (side : Side) (event : Event) (g : Giving T)
    → (happens k side event g).submitted ≡ g.submitted
happens_submitted k side (events.Take lcid count len) g = refl
happens_submitted k side (events.Report lcid fms bitmap) g = refl
happens_submitted k side (events.Discard lcid len) g = refl
happens_submitted k side event g = refl

pub tells_submitted : {T : Type 0} (k : Keeper T) (one : Record) (g : Giving T)
    → (tells k one g).submitted ≡ g.submitted
tells_submitted k (records.Of side event) g = happens_submitted k side event g
tells_submitted k (records.Looped lcid octets) g = refl
tells_submitted k (records.Air direction Got heard) g = refl
tells_submitted k (records.Air direction what heard) g = refl
tells_submitted k one g = refl

-- ---- as many channels

with_nb : (side : Side) (lcid n : ℕ) (w : Waits) → length w.nb ≡ 11 → length (with_waits side lcid n w).nb ≡ 11
with_nb Nb lcid n w h = length-set w.nb lcid n ∙ h
with_nb Ue lcid n w h = h

with_ue : (side : Side) (lcid n : ℕ) (w : Waits) → length w.ue ≡ 11 → length (with_waits side lcid n w).ue ≡ 11
with_ue Nb lcid n w h = h
with_ue Ue lcid n w h = length-set w.ue lcid n ∙ h

changed_length : {T : Type 0} (side : Side) (lcid : ℕ) (f : Supply T → Supply T) (bs : Bearers T)
    → length bs ≡ 11 → length (changed_on side lcid f bs) ≡ 11
changed_length side lcid f bs h = length-set bs lcid (option_map (on_side side f) (bearer_at lcid bs)) ∙ h

own_has : {T : Type 0} (k : Keeper T) (o : Option Submission) (g : Giving T) → HasChannels T g
    → HasChannels T (submits_own k o g)
own_has k None g h = h
own_has k (Some s) g h = record {
  bearers = changed_length s.side s.lcid (told k (SduSubmitted s.octets)) g.bearers h.bearers;
  nb_waits = with_nb s.side s.lcid (waits_at s.side s.lcid g.waits + 1) g.waits h.nb_waits;
  ue_waits = with_ue s.side s.lcid (waits_at s.side s.lcid g.waits + 1) g.waits h.ue_waits;
}

settled_has : {T : Type 0} (k : Keeper T) (one : Record) (g : Giving T) → HasChannels T g
    → HasChannels T (settled k one g)
settled_has k one g h =
    let own = own_has k (unrefused one g.submitted) (with_submitted (unrefused one g.submitted) g)
    (record { bearers = h.bearers; nb_waits = h.nb_waits; ue_waits = h.ue_waits }) in
    record { bearers = own.bearers; nb_waits = own.nb_waits; ue_waits = own.ue_waits }

happens_has : {T : Type 0} (k : Keeper T) (side : Side) (event : Event) (g : Giving T) → HasChannels T g
    → HasChannels T (happens k side event g)
happens_has k side (events.Take lcid count len) g h = record {
  bearers = changed_length side lcid (takes_pdu k count len) g.bearers h.bearers;
  nb_waits = with_nb side lcid (waits_at side lcid g.waits - 1) g.waits h.nb_waits;
  ue_waits = with_ue side lcid (waits_at side lcid g.waits - 1) g.waits h.ue_waits;
}
happens_has k side (events.Report lcid fms bitmap) g h = record {
  bearers = changed_length side lcid (takes_report k fms bitmap) g.bearers h.bearers;
  nb_waits = h.nb_waits;
  ue_waits = h.ue_waits;
}
happens_has k side (events.Discard lcid len) g h = record {
  bearers = changed_length side lcid (told k SduDiscarded) g.bearers h.bearers;
  nb_waits = with_nb side lcid (waits_at side lcid g.waits - 1) g.waits h.nb_waits;
  ue_waits = with_ue side lcid (waits_at side lcid g.waits - 1) g.waits h.ue_waits;
}
happens_has k side event g h = h

tells_has : {T : Type 0} (k : Keeper T) (one : Record) (g : Giving T) → HasChannels T g
    → HasChannels T (tells k one g)
tells_has k (records.Of side event) g h = happens_has k side event g h
tells_has k (records.Looped lcid octets) g h = record {
  bearers = changed_length Ue lcid (told k (SduSubmitted octets)) g.bearers h.bearers;
  nb_waits = with_nb Ue lcid (waits_at Ue lcid g.waits + 1) g.waits h.nb_waits;
  ue_waits = with_ue Ue lcid (waits_at Ue lcid g.waits + 1) g.waits h.ue_waits;
}
tells_has k (records.Air direction Got heard) g h = record {
  bearers = each_length (landed_on k (sender_of direction) g.kept) 0 g.bearers ∙ h.bearers;
  nb_waits = h.nb_waits;
  ue_waits = h.ue_waits;
}
tells_has k (records.Air direction what heard) g h = h
tells_has k one g h = h

record_has : {T : Type 0} (k : Keeper T) (one : Record) (g : Giving T) → HasChannels T g
    → HasChannels T (after_record k one g)
record_has k one g h =
    let s = settled k one g in
    let has = settled_has k one g h in
    tells_has k one (with_kept (record_kept (may_take k one (settled k one g)) one s.kept) (settled k one g))
    (record { bearers = has.bearers; nb_waits = has.nb_waits; ue_waits = has.ue_waits })

line_has : {T : Type 0} (k : Keeper T) (line : Line) (g : Giving T) → HasChannels T g
    → HasChannels T (after_line k line g)
line_has k line g h = record {
  bearers = has_bearers line;
  nb_waits = has_nb line;
  ue_waits = has_ue line;
}
  where
    has_bearers : (own : Line) → length (bearers_by k own g.bearers) ≡ 11
    has_bearers (lines.Bearer config options) =
        length-set g.bearers config.channel.lcid (bearer_begun k config.kind config.first config.pdcp_bits) ∙ h.bearers
    has_bearers own = h.bearers

    has_nb : (own : Line) → length (waits_by own g.waits).nb ≡ 11
    has_nb (lines.Bearer config options) = length-set g.waits.nb config.channel.lcid 0 ∙ h.nb_waits
    has_nb own = h.nb_waits

    has_ue : (own : Line) → length (waits_by own g.waits).ue ≡ 11
    has_ue (lines.Bearer config options) = length-set g.waits.ue config.channel.lcid 0 ∙ h.ue_waits
    has_ue own = h.ue_waits

hands_has : {T : Type 0} (k : Keeper T) (b : Bool) (g : Giving T) → HasChannels T g
    → HasChannels T (at_rest (hands_on k b g))
hands_has k true g h = record {
  bearers = each_length (ended_on k g.kept) 0 g.bearers ∙ h.bearers;
  nb_waits = refl;
  ue_waits = refl;
}
hands_has k false g h = record { bearers = h.bearers; nb_waits = h.nb_waits; ue_waits = h.ue_waits }

group_has : {T : Type 0} (k : Keeper T) (g : Giving T) → HasChannels T g → HasChannels T (after_group k g)
group_has k g h =
    let own = own_has k g.submitted (with_kept (group_kept g.kept) g)
    (record { bearers = h.bearers; nb_waits = h.nb_waits; ue_waits = h.ue_waits }) in
    hands_has k g.hands_over (line_submitted k (with_kept (group_kept g.kept) g))
    (record { bearers = own.bearers; nb_waits = own.nb_waits; ue_waits = own.ue_waits })

-- ---- one channel

abbrev pub channel : {T : Type 0} → Keeping → Option (Bearer T) → ℕ → ℕ → Option Submission → OneChannel T
channel kept b n m sdu = record { kept = kept; bearer = b; nb_waits = n; ue_waits = m; submitted = sdu }

pub same_channel : {T : Type 0} (kept kept' : Keeping) (b c : Option (Bearer T)) (n n' m m' : ℕ)
    (o p : Option Submission) → kept ≡ kept' → b ≡ c → n ≡ n' → m ≡ m' → o ≡ p
    → channel kept b n m o ≡ channel kept' c n' m' p
same_channel kept kept' b c n n' m m' o p hk hb hn hm ho =
    ap (λ (x : Keeping). channel x b n m o) hk ∙ ap (λ (x : Option (Bearer _)). channel kept' x n m o) hb
    ∙ ap (λ (x : ℕ). channel kept' c x m o) hn ∙ ap (λ (x : ℕ). channel kept' c n' x o) hm
    ∙ ap (λ (x : Option Submission). channel kept' c n' m' x) ho

own_alone : {T : Type 0} (k : Keeper T) (l : ℕ) (o : Option Submission) (g : Giving T) → HasChannels T g → l ≤ 10
    → channel_in l (with_submitted None (submits_own k o g)) ≡ one_submitted k l o (channel_in l g)
own_alone k l o g h low =
    let s = submits_own k o g in
    same_channel s.kept g.kept (bearer_at l s.bearers) (bearer_submits k l o (bearer_at l g.bearers))
    (waits_at Nb l s.waits) (waits_submits Nb l o (waits_at Nb l g.waits))
    (waits_at Ue l s.waits) (waits_submits Ue l o (waits_at Ue l g.waits)) None None
    (own_keeps k o g) (own_at k l o g) (own_wait k Nb l o g h low) (own_wait k Ue l o g h low) refl

settled_alone : {T : Type 0} (k : Keeper T) (l : ℕ) (one : Record) (g : Giving T) → HasChannels T g → l ≤ 10
    → channel_in l (settled k one g) ≡ one_settled k l one (channel_in l g)
settled_alone k l one g h low =
    own_alone k l (unrefused one g.submitted) (with_submitted (unrefused one g.submitted) g)
    (record { bearers = h.bearers; nb_waits = h.nb_waits; ue_waits = h.ue_waits }) low

told_alone : {T : Type 0} (k : Keeper T) (l : ℕ) (more : Bool) (one : Record) (s : Giving T) → HasChannels T s
    → l ≤ 10 → (after : Giving T) → after ≡ tells k one (with_kept (record_kept more one s.kept) s)
    → after.kept ≡ record_kept more one s.kept → channel_in l after ≡ one_told k l more one (channel_in l s)
told_alone k l more one s h low after is kept =
    let g = with_kept (record_kept more one s.kept) s in
    let has : HasChannels _ (with_kept (record_kept more one s.kept) s) =
    record { bearers = h.bearers; nb_waits = h.nb_waits; ue_waits = h.ue_waits } in
    same_channel after.kept (record_kept more one s.kept) (bearer_at l after.bearers)
    (bearer_told k l one (record_kept more one s.kept) (bearer_at l s.bearers))
    (waits_at Nb l after.waits) (waits_told Nb l one (waits_at Nb l s.waits))
    (waits_at Ue l after.waits) (waits_told Ue l one (waits_at Ue l s.waits)) after.submitted s.submitted
    kept
    (ap (λ (x : Giving _). bearer_at l x.bearers) is ∙ tells_at k l one g)
    (ap (λ (x : Giving _). waits_at Nb l x.waits) is ∙ tells_wait k Nb l one g has low)
    (ap (λ (x : Giving _). waits_at Ue l x.waits) is ∙ tells_wait k Ue l one g has low)
    (ap (λ (x : Giving _). x.submitted) is ∙ tells_submitted k one g)

record_alone : {T : Type 0} (k : Keeper T) (l : ℕ) (one : Record) (g : Giving T) → HasChannels T g → l ≤ 10
    → channel_in l (after_record k one g)
    ≡ one_record k l (may_take k one (settled k one g)) one (channel_in l g)
record_alone k l one g h low =
    told_alone k l (may_take k one (settled k one g)) one (settled k one g) (settled_has k one g h) low
    (after_record k one g) refl
    (record_keeps k one g
    ∙ ap (record_kept (may_take k one (settled k one g)) one) (sym (settled_keeps k one g)))
    ∙ ap (one_told k l (may_take k one (settled k one g)) one) (settled_alone k l one g h low)

line_alone : {T : Type 0} (k : Keeper T) (l : ℕ) (line : Line) (g : Giving T) → HasChannels T g → l ≤ 10
    → channel_in l (after_line k line g) ≡ one_line k l line (channel_in l g)
line_alone k l line g h low =
    let a = after_line k line g in
    same_channel a.kept a.kept (bearer_at l a.bearers) (bearer_by_line k l line (bearer_at l g.bearers))
    (waits_at Nb l a.waits) (waits_by_line l line (waits_at Nb l g.waits))
    (waits_at Ue l a.waits) (waits_by_line l line (waits_at Ue l g.waits)) a.submitted a.submitted
    refl (on_bearer line) (on_nb line) (on_ue line) refl
  where
    on_bearer : (own : Line) → bearer_at l (bearers_by k own g.bearers) ≡ bearer_by_line k l own (bearer_at l g.bearers)
    on_bearer (lines.Bearer config options) =
        placed config.channel.lcid l (bearer_begun k config.kind config.first config.pdcp_bits) None g.bearers h.bearers
        low
    on_bearer own = refl

    on_nb : (own : Line) → waits_at Nb l (waits_by own g.waits) ≡ waits_by_line l own (waits_at Nb l g.waits)
    on_nb (lines.Bearer config options) = placed config.channel.lcid l 0 0 g.waits.nb h.nb_waits low
    on_nb own = refl

    on_ue : (own : Line) → waits_at Ue l (waits_by own g.waits) ≡ waits_by_line l own (waits_at Ue l g.waits)
    on_ue (lines.Bearer config options) = placed config.channel.lcid l 0 0 g.waits.ue h.ue_waits low
    on_ue own = refl

hands_alone : {T : Type 0} (k : Keeper T) (l : ℕ) (b : Bool) (g : Giving T)
    → channel_in l (at_rest (hands_on k b g)) ≡ one_ended k l b (channel_in l g)
hands_alone k l true g =
    same_channel g.kept g.kept (bearer_at l (each_from (ended_on k g.kept) 0 g.bearers))
    (ended_on k g.kept l (bearer_at l g.bearers))
    (slice_index_or (replicate 11 0) l 0) 0 (slice_index_or (replicate 11 0) l 0) 0 g.submitted g.submitted
    refl (each_here (ended_on k g.kept) (λ n. refl) l g.bearers) (none_at 11 l 0) (none_at 11 l 0) refl
hands_alone k l false g = refl

group_alone : {T : Type 0} (k : Keeper T) (l : ℕ) (g : Giving T) → HasChannels T g → l ≤ 10
    → channel_in l (after_group k g) ≡ one_group k l g.hands_over (channel_in l g)
group_alone k l g h low =
    hands_alone k l g.hands_over (line_submitted k (with_kept (group_kept g.kept) g))
    ∙ ap (one_ended k l g.hands_over) (own_alone k l g.submitted (with_kept (group_kept g.kept) g)
    (record { bearers = h.bearers; nb_waits = h.nb_waits; ue_waits = h.ue_waits }) low)

pub one_channel_by_steps : (T : Type 0) (k : Keeper T) → OneChannelBySteps T k
one_channel_by_steps T k = record {
  begin = record { bearers = refl; nb_waits = refl; ue_waits = refl };
  stay = λ g h. record {
    line = λ line. line_has k line g h;
    settles = λ one. settled_has k one g h;
    behind = λ one. record_has k one g h;
    group = group_has k g h;
  };
  alone = λ l g low h. record {
    line = λ line. line_alone k l line g h low;
    settles = λ one. settled_alone k l one g h low;
    behind = λ one. record_alone k l one g h low;
    group = group_alone k l g h low;
  };
  none = λ l g far h. get_or_past g.bearers l None (omega (arith, h.bearers, far));
}
