-- Record by record, what is kept within a group stays: each flow has read what it handed up so far.
use Rattle.std.proofs.Common.{◌≡◌, ℕ, ◌≤◌, Bool, true, false, ◌&&◌, List, [], ◌∷◌, ◌++◌, length, map, Option, Some}
use Rattle.std.proofs.Common.{None, slice_index_or, option_map, refl, ap, sym, ◌∙◌, append_assoc, append-nil, subst}
use Rattle.std.proofs.Common.{if◌then◌else◌}
use Rattle.std.specs.Prelude.{◌==◌}
use Rattle.std.specs.List.{filter}
use Rattle.std.proofs.lemmas.Bool.{false≢true, and_parts}
use Rattle.std.proofs.lemmas.List.{map-append}
use Rattle.std.proofs.lemmas.List.Elements.{filter-append}
use Rattle.eps_sec.specs.declared.Keys.{Keys}
use Rattle.l2_types.specs.declared.side.Side.{Side}
use Rattle.l2_types.specs.declared.side.Side.TheVariants.{Nb, Ue}
use Rattle.bearer_types.specs.declared.config.BearerConfig.{BearerConfig}
use Rattle.bearer_types.specs.declared.event.Event.{Event}
use Rattle.bearer_types.specs.declared.event.Event.TheVariants as events
use Rattle.bearer_types.specs.Sides.{other, is_same}
use Rattle.air_record.specs.declared.record.Record.{Record}
use Rattle.air_record.specs.declared.record.Record.TheVariants as records
use Rattle.air_text.specs.Groups.{Group}
use Rattle.promises.specs.Records.{is_up, sdu_of, ups_in}
use Rattle.journal_um.specs.declared.pieces.JoinedSdu.{JoinedSdu}
use Rattle.journal_flows.specs.Gathering.{MayTake}
use Rattle.journal_flows.specs.FlowsTold.{is_at}
use Rattle.journal_flows.specs.Accounts.{Keeping}
use Rattle.journal_flows.specs.Accounts as flows
use Rattle.journal_flows.specs.Laws.{Deed, GoesRecord, kept_by, taken_of, bearer_on}
use Rattle.journal_edge.specs.UmReading.{Reader}
use Rattle.journal_edge.specs.EdgeFlow.{EdgeFlow, flow_all_read, flow_up}
use Rattle.journal_edge.specs.EdgeChecking.{EdgeChecking, Beside, ready_at, octets_in, octets_at, all_taken}
use Rattle.journal_edge.specs.EdgeChecking.{slot_read, left_by, slot_up, slot_at, up_from, after_record, leaves}
use Rattle.journal_edge.specs.EdgeChecking.{keys_behind, beside_record, beside_records}
use Rattle.journal_edge.proofs.Pairs.{ArePaired, up_pairs}
use Rattle.journal_edge.proofs.Readings.{next_append, read_append, read_to, reads_by, reader_is, pairs_are}
use Rattle.journal_edge.proofs.Edges.{octets_append}
use Rattle.journal_edge.proofs.Taking.{kept_whole, apart, changed_at, other_at, is_self, takes_all}
use Rattle.journal_edge.proofs.Inside.{SlotFor, slot_step, slot_same, taken_first, reader_first, IsInside, Inside}
use Rattle.journal_edge.proofs.Inside.{set_size, is_number}

-- ---- a record

ups_more : (side : Side) (l : ℕ) (seen : List Record) (one : Record)
    → ups_in side l (seen ++ one ∷ []) ≡ ups_in side l seen ++ ups_in side l (one ∷ [])
ups_more side l seen one =
    ap (λ (rs : List Record). map sdu_of rs) (filter-append (is_up side l) seen (one ∷ []))
    ∙ map-append sdu_of (filter (is_up side l) seen) (filter (is_up side l) (one ∷ []))

no_up : (side : Side) (l : ℕ) (seen : List Record) (one : Record) → is_up side l one ≡ false
    → ups_in side l (seen ++ one ∷ []) ≡ ups_in side l seen
no_up side l seen one e =
    ups_more side l seen one
    ∙ ap (λ (b : Bool). ups_in side l seen ++ map sdu_of (if b then one ∷ [] else [])) e
    ∙ append-nil (ups_in side l seen)

an_up : (side : Side) (l : ℕ) (seen : List Record) (one : Record) → is_up side l one ≡ true
    → ups_in side l (seen ++ one ∷ []) ≡ ups_in side l seen ++ sdu_of one ∷ []
an_up side l seen one e =
    ups_more side l seen one
    ∙ ap (λ (b : Bool). ups_in side l seen ++ map sdu_of (if b then one ∷ [] else [])) e

-- what nothing changes
still : (may_take : MayTake) (now : Group) (past : List Group) (from : Side) (l : ℕ) (seen : List Record)
    (one : Record) (deeds deeds' : List Deed) → taken_of from l deeds' ≡ taken_of from l deeds
    → is_up (other from) l one ≡ false → (config : BearerConfig) (f : EdgeFlow)
    → IsInside may_take now past from l seen deeds config f
    → IsInside may_take now past from l (seen ++ one ∷ []) deeds' config f
still may_take now past from l seen one deeds deeds' t u config f h = record {
  new = h.new;
  taken = t ∙ h.taken;
  reader = h.reader;
  pairs = subst (λ (ups : List (List ℕ)). ArePaired
      (reads_by (reader_first may_take now past from l config) (octets_in h.new)) ups f.pairs)
      (sym (no_up (other from) l seen one u)) h.pairs;
}

-- ---- a record that isn't of an SDU that goes up

pub data IsPlain (one : Record) : Type 0 where
  Plain : ((k : Keeping) (c : EdgeChecking) → leaves one k c ≡ k)
      → ((k : Keeping) (c : EdgeChecking) → after_record one k c ≡ c)
      → ((side : Side) (l : ℕ) → is_up side l one ≡ false) → IsPlain one
  GoesUp : (side : Side) (lcid : ℕ) (sdu : List ℕ) → one ≡ records.Of side (events.Up lcid sdu) → IsPlain one

plain_event : (side : Side) (event : Event) → IsPlain (records.Of side event)
plain_event side (events.Up lcid sdu) = GoesUp side lcid sdu refl
plain_event side event = Plain (λ k c. refl) (λ k c. refl) (λ s l. refl)

plain : (one : Record) → IsPlain one
plain (records.Of side event) = plain_event side event
plain one = Plain (λ k c. refl) (λ k c. refl) (λ s l. refl)

-- ---- an SDU goes up

other_twice : (side : Side) → other (other side) ≡ side
other_twice Nb = refl
other_twice Ue = refl

same_other : (side from : Side) → is_same (other from) side ≡ is_same (other side) from
same_other Nb Nb = refl
same_other Nb Ue = refl
same_other Ue Nb = refl
same_other Ue Ue = refl

up_is_at : (side : Side) (m : ℕ) (sdu : List ℕ) (from : Side) (l : ℕ)
    → is_up (other from) l (records.Of side (events.Up m sdu)) ≡ is_at (other side) m from l
up_is_at side m sdu from l = ap (λ (b : Bool). b && (m == l)) (same_other side from)

-- the slot of another flow
up_other : (own : Side) (m : ℕ) (sdu : List ℕ) (k : Keeping) (c : EdgeChecking) (from : Side) (l : ℕ)
    → is_at own m from l ≡ false → slot_at from l (up_from own m sdu k c) ≡ slot_at from l c
up_other Nb m sdu k c Nb l e = other_at c.nb m l (slot_up sdu (slot_read Nb m k (slice_index_or c.nb m None)))
    (apart m l e)
up_other Nb m sdu k c Ue l e = refl
up_other Ue m sdu k c Nb l e = refl
up_other Ue m sdu k c Ue l e = other_at c.ue m l (slot_up sdu (slot_read Ue m k (slice_index_or c.ue m None)))
    (apart m l e)

-- and of its own
abbrev read_and_up : Side → ℕ → List ℕ → Keeping → EdgeFlow → EdgeFlow
read_and_up from l sdu k f = flow_up sdu (flow_all_read (octets_at from l k) f)

slot_goes : (from : Side) (l : ℕ) (sdu : List ℕ) (k : Keeping) (slot : Option EdgeFlow)
    → slot_up sdu (slot_read from l k slot) ≡ option_map (read_and_up from l sdu k) slot
slot_goes from l sdu k None = refl
slot_goes from l sdu k (Some f) = refl

up_own : (from : Side) (l : ℕ) (sdu : List ℕ) (k : Keeping) (c : EdgeChecking)
    → slot_at from l (up_from from l sdu k c) ≡ option_map (read_and_up from l sdu k) (slot_at from l c)
up_own Nb l sdu k c =
    changed_at c.nb l (λ (s : Option EdgeFlow). slot_up sdu (slot_read Nb l k s)) refl
    ∙ slot_goes Nb l sdu k (slice_index_or c.nb l None)
up_own Ue l sdu k c =
    changed_at c.ue l (λ (s : Option EdgeFlow). slot_up sdu (slot_read Ue l k s)) refl
    ∙ slot_goes Ue l sdu k (slice_index_or c.ue l None)

-- a flow reads and an SDU of it goes up
reads_on : (may_take : MayTake) (now : Group) (past : List Group) (from : Side) (l : ℕ) (seen : List Record)
    (one : Record) (sdu : List ℕ) (k : Keeping) (deeds deeds' : List Deed)
    → taken_of from l deeds' ≡ taken_of from l deeds ++ ready_at from l k
    → is_up (other from) l one ≡ true → sdu_of one ≡ sdu → (config : BearerConfig) (f : EdgeFlow)
    → IsInside may_take now past from l seen deeds config f
    → IsInside may_take now past from l (seen ++ one ∷ []) deeds' config (read_and_up from l sdu k f)
reads_on may_take now past from l seen one sdu k deeds deeds' t u s config f h =
    let r0 = reader_first may_take now past from l config in
    let more = ready_at from l k in
    let new = h.new ++ more in
    let old' = octets_in h.new in
    let more' = octets_in more in
    let read' : reads_by r0 (octets_in new) ≡ reads_by r0 old' ++ reads_by f.reader more' =
    ap (λ (x : List (List ℕ)). reads_by r0 x) (octets_append h.new more)
    ∙ read_append r0.bits r0.protection r0.next old' more'
    ∙ ap (λ (r : Reader). reads_by r0 old' ++ reads_by r more') (sym h.reader) in
    let ups' : ups_in (other from) l (seen ++ one ∷ []) ≡ ups_in (other from) l seen ++ sdu ∷ [] =
    an_up (other from) l seen one u ∙ ap (λ (x : List ℕ). ups_in (other from) l seen ++ x ∷ []) s in
    let read = pairs_are more' (reads_by r0 old') (ups_in (other from) l seen) f h.pairs in
    let gone = up_pairs sdu (reads_by r0 old' ++ reads_by f.reader more') (ups_in (other from) l seen)
    (flow_all_read more' f).pairs read in
    record {
      new = new;
      taken = t ∙ ap (λ (x : List JoinedSdu). x ++ more) h.taken
          ∙ append_assoc (taken_first may_take now past from l config) h.new more;
      reader = reader_is more' f ∙ ap (λ (r : Reader). read_to more' r) h.reader
          ∙ ap (λ (n : ℕ). record r0 { next = n }) (sym (next_append r0.bits r0.protection r0.next old' more'))
          ∙ ap (λ (x : List (List ℕ)). read_to x r0) (sym (octets_append h.new more));
      pairs = subst (λ (x : List (List ℕ)). ArePaired (reads_by r0 (octets_in new)) x
          (flow_up sdu (flow_all_read more' f)).pairs) (sym ups')
          (subst (λ (x : List (List ℕ)). ArePaired x (ups_in (other from) l seen ++ sdu ∷ [])
          (flow_up sdu (flow_all_read more' f)).pairs) (sym read') gone);
    }

-- each flow, by what is taken of its own
up_flows : (may_take : MayTake) (now : Group) (past : List Group) (seen : List Record) (side : Side) (m : ℕ)
    (sdu : List ℕ) (k : Keeping) (c : EdgeChecking) (deeds deeds' : List Deed)
    → ((from : Side) (l : ℕ) → is_at (other side) m from l ≡ false → taken_of from l deeds' ≡ taken_of from l deeds)
    → ((f : EdgeFlow) → slot_at (other side) m c ≡ Some f
    → taken_of (other side) m deeds' ≡ taken_of (other side) m deeds ++ ready_at (other side) m k)
    → ((from : Side) (l : ℕ) → l ≤ 10 → SlotFor (IsInside may_take now past from l seen deeds)
    (bearer_on l (now ∷ past)) (slot_at from l c))
    → (from : Side) (l : ℕ) → l ≤ 10
    → SlotFor (IsInside may_take now past from l (seen ++ records.Of side (events.Up m sdu) ∷ []) deeds')
    (bearer_on l (now ∷ past)) (slot_at from l (up_from (other side) m sdu k c))
up_flows may_take now past seen side m sdu k c deeds deeds' others mine h from l lo = by (is_at own m from l) refl
  where
    own : Side
    own = other side

    one : Record
    one = records.Of side (events.Up m sdu)

    Goal : Side → ℕ → Type 0
    Goal s n = SlotFor (IsInside may_take now past s n (seen ++ one ∷ []) deeds') (bearer_on n (now ∷ past))
        (slot_at s n (up_from own m sdu k c))

    sides : (a b : Side) → is_same a b ≡ true → a ≡ b
    sides Nb Nb e = refl
    sides Ue Ue e = refl
    sides Nb Ue e = absurd (false≢true e)
    sides Ue Nb e = absurd (false≢true e)

    itself : m ≤ 10 → Goal own m
    itself low' = slot_step (IsInside may_take now past own m seen deeds)
        (IsInside may_take now past own m (seen ++ one ∷ []) deeds') (read_and_up own m sdu k)
        (bearer_on m (now ∷ past)) (slot_at own m c) (slot_at own m (up_from own m sdu k c)) (up_own own m sdu k c)
        (λ config f b u s i. reads_on may_take now past own m seen one sdu k deeds deeds' (mine f s)
        (up_is_at side m sdu own m ∙ is_self own m) refl config f i) (h own m low')

    by : (b : Bool) → is_at own m from l ≡ b → Goal from l
    by false e = slot_same (IsInside may_take now past from l seen deeds)
        (IsInside may_take now past from l (seen ++ one ∷ []) deeds') (bearer_on l (now ∷ past))
        (slot_at from l c) (slot_at from l (up_from own m sdu k c)) (up_other own m sdu k c from l e)
        (still may_take now past from l seen one deeds deeds' (others from l e) (up_is_at side m sdu from l ∙ e))
        (h from l lo)
    by true e =
        let both = and_parts (is_same own from) (m == l) e in
        let n : m ≡ l = is_number m l both.1 in
        subst (λ (s : Side). Goal s l) (sides own from both.0)
        (subst (λ (x : ℕ). Goal own x) n (itself (subst (λ (x : ℕ). x ≤ 10) (sym n) lo)))

up_keys : (own : Side) (m : ℕ) (sdu : List ℕ) (k : Keeping) (c : EdgeChecking)
    → (up_from own m sdu k c).keys ≡ c.keys
up_keys Nb m sdu k c = refl
up_keys Ue m sdu k c = refl

up_renewal : (own : Side) (m : ℕ) (sdu : List ℕ) (k : Keeping) (c : EdgeChecking)
    → (up_from own m sdu k c).renewal ≡ c.renewal
up_renewal Nb m sdu k c = refl
up_renewal Ue m sdu k c = refl

up_right : (own : Side) (m : ℕ) (sdu : List ℕ) (k : Keeping) (c : EdgeChecking)
    → (up_from own m sdu k c).right ≡ c.right
up_right Nb m sdu k c = refl
up_right Ue m sdu k c = refl

up_nb : (own : Side) (m : ℕ) (sdu : List ℕ) (k : Keeping) (c : EdgeChecking)
    → length (up_from own m sdu k c).nb ≡ length c.nb
up_nb Nb m sdu k c = set_size c.nb m (slot_up sdu (slot_read Nb m k (slice_index_or c.nb m None)))
up_nb Ue m sdu k c = refl

up_ue : (own : Side) (m : ℕ) (sdu : List ℕ) (k : Keeping) (c : EdgeChecking)
    → length (up_from own m sdu k c).ue ≡ length c.ue
up_ue Nb m sdu k c = refl
up_ue Ue m sdu k c = set_size c.ue m (slot_up sdu (slot_read Ue m k (slice_index_or c.ue m None)))

up_with : (may_take : MayTake) (now : Group) (past : List Group) (right : Bool) (seen : List Record)
    (whole' : Keeping) (b : Beside) (more : Bool) (side : Side) (m : ℕ) (sdu : List ℕ)
    (i : Inside may_take now past right seen whole' b) (deeds' : List Deed)
    → left_by (other side) m (flows.after_record more (records.Of side (events.Up m sdu)) b.kept)
    (slot_at (other side) m b.checked) ≡ kept_by deeds'
    → kept_whole deeds' ≡ flows.after_record more (records.Of side (events.Up m sdu)) (kept_whole i.deeds)
    → ((from : Side) (l : ℕ) → is_at (other side) m from l ≡ false
    → taken_of from l deeds' ≡ taken_of from l i.deeds)
    → ((f : EdgeFlow) → slot_at (other side) m b.checked ≡ Some f
    → taken_of (other side) m deeds' ≡ taken_of (other side) m i.deeds ++ ready_at (other side) m
    (flows.after_record more (records.Of side (events.Up m sdu)) b.kept))
    → Inside may_take now past right (seen ++ records.Of side (events.Up m sdu) ∷ [])
    (flows.after_record more (records.Of side (events.Up m sdu)) whole')
    (beside_record more (records.Of side (events.Up m sdu)) b)
up_with may_take now past right seen whole' b more side m sdu i deeds' kept whole others mine =
    let one = records.Of side (events.Up m sdu) in
    let k = flows.after_record more one b.kept in
    let c = b.checked in
    record {
      deeds = deeds';
      kept = kept;
      whole = whole ∙ ap (λ (x : Keeping). flows.after_record more one x) i.whole;
      keys = ap (λ (o : Option Keys). keys_behind o (up_from (other side) m sdu k c).keys)
          (up_renewal (other side) m sdu k c)
          ∙ ap (λ (x : Keys). keys_behind c.renewal x) (up_keys (other side) m sdu k c) ∙ i.keys;
      renewal = up_renewal (other side) m sdu k c ∙ i.renewal;
      right_is = up_right (other side) m sdu k c ∙ i.right_is;
      nb_size = up_nb (other side) m sdu k c ∙ i.nb_size;
      ue_size = up_ue (other side) m sdu k c ∙ i.ue_size;
      flows = up_flows may_take now past seen side m sdu k c i.deeds deeds' others mine i.flows;
    }

up_step : (may_take : MayTake) (now : Group) (past : List Group) (right : Bool) (seen : List Record)
    (whole' : Keeping) (b : Beside) (more : Bool) (side : Side) (m : ℕ) (sdu : List ℕ)
    → Inside may_take now past right seen whole' b
    → Inside may_take now past right (seen ++ records.Of side (events.Up m sdu) ∷ [])
    (flows.after_record more (records.Of side (events.Up m sdu)) whole')
    (beside_record more (records.Of side (events.Up m sdu)) b)
up_step may_take now past right seen whole' b more side m sdu i = by (slot_at own m b.checked) refl
  where
    own : Side
    own = other side

    one : Record
    one = records.Of side (events.Up m sdu)

    k : Keeping
    k = flows.after_record more one b.kept

    deeds1 : List Deed
    deeds1 = GoesRecord more one ∷ i.deeds

    k_is : k ≡ kept_by deeds1
    k_is = ap (λ (x : Keeping). flows.after_record more one x) i.kept

    by : (slot : Option EdgeFlow) → slot_at own m b.checked ≡ slot
        → Inside may_take now past right (seen ++ one ∷ []) (flows.after_record more one whole')
        (beside_record more one b)
    by None e = up_with may_take now past right seen whole' b more side m sdu i deeds1
        (ap (λ (s : Option EdgeFlow). left_by own m k s) e ∙ k_is) refl (λ from l off. refl)
        (λ f s. let no : Some f ≡ None = sym s ∙ e in cc)
    by (Some f0) e =
        let r = takes_all own m (ready_at own m (kept_by deeds1)) deeds1 refl in
        up_with may_take now past right seen whole' b more side m sdu i r.deeds
        (ap (λ (s : Option EdgeFlow). left_by own m k s) e ∙ ap (λ (x : Keeping). all_taken own m x) k_is ∙ r.kept)
        r.whole r.others
        (λ f s. r.own ∙ ap (λ (x : Keeping). taken_of own m i.deeds ++ ready_at own m x) (sym k_is))

pub record_step : (may_take : MayTake) (now : Group) (past : List Group) (right : Bool) (seen : List Record)
    (whole' : Keeping) (b : Beside) (more : Bool) (one : Record)
    → Inside may_take now past right seen whole' b
    → Inside may_take now past right (seen ++ one ∷ []) (flows.after_record more one whole')
    (beside_record more one b)
record_step may_take now past right seen whole' b more one i = by (plain one)
  where
    k : Keeping
    k = flows.after_record more one b.kept

    by : IsPlain one → Inside may_take now past right (seen ++ one ∷ []) (flows.after_record more one whole')
        (beside_record more one b)
    by (GoesUp side m sdu e) = subst (λ (x : Record). Inside may_take now past right (seen ++ x ∷ [])
        (flows.after_record more x whole') (beside_record more x b)) (sym e)
        (up_step may_take now past right seen whole' b more side m sdu i)
    by (Plain left checked' ups) = record {
      deeds = GoesRecord more one ∷ i.deeds;
      kept = left k b.checked ∙ ap (λ (x : Keeping). flows.after_record more one x) i.kept;
      whole = ap (λ (x : Keeping). flows.after_record more one x) i.whole;
      keys = ap (λ (c : EdgeChecking). keys_behind c.renewal c.keys) (checked' k b.checked) ∙ i.keys;
      renewal = ap (λ (c : EdgeChecking). c.renewal) (checked' k b.checked) ∙ i.renewal;
      right_is = ap (λ (c : EdgeChecking). c.right) (checked' k b.checked) ∙ i.right_is;
      nb_size = ap (λ (c : EdgeChecking). length c.nb) (checked' k b.checked) ∙ i.nb_size;
      ue_size = ap (λ (c : EdgeChecking). length c.ue) (checked' k b.checked) ∙ i.ue_size;
      flows = λ from l h. slot_same (IsInside may_take now past from l seen i.deeds)
          (IsInside may_take now past from l (seen ++ one ∷ []) (GoesRecord more one ∷ i.deeds))
          (bearer_on l (now ∷ past)) (slot_at from l b.checked) (slot_at from l (after_record one k b.checked))
          (ap (λ (c : EdgeChecking). slot_at from l c) (checked' k b.checked))
          (still may_take now past from l seen one i.deeds (GoesRecord more one ∷ i.deeds) refl (ups (other from) l))
          (i.flows from l h);
    }

pub records_step : (may_take : MayTake) (now : Group) (past : List Group) (right : Bool)
    (before seen told : List Record) (whole' : Keeping) (b : Beside)
    → Inside may_take now past right seen whole' b
    → Inside may_take now past right (seen ++ told) (flows.after_records may_take past before told whole')
    (beside_records may_take past before told b)
records_step may_take now past right before seen [] whole' b i =
    subst (λ (x : List Record). Inside may_take now past right x whole' b) (sym (append-nil seen)) i
records_step may_take now past right before seen (one ∷ told) whole' b i =
    subst (λ (x : List Record). Inside may_take now past right x
    (flows.after_records may_take past before (one ∷ told) whole')
    (beside_records may_take past before (one ∷ told) b)) (append_assoc seen (one ∷ []) told)
    (records_step may_take now past right (one ∷ before) (seen ++ one ∷ []) told
    (flows.after_record (may_take past before one) one whole') (beside_record (may_take past before one) one b)
    (record_step may_take now past right seen whole' b (may_take past before one) one i))
