-- SDUs may be taken at any time: what is left is as if none were, but for those.
use Rattle.std.proofs.Common.{◌≡◌, ℕ, ◌-◌, ◌<◌, ◌≤◌, Bool, true, false, List, [], ◌∷◌, ◌++◌, length, take}
use Rattle.std.proofs.Common.{Option, Some, None, inl, inr, refl, ap, sym, ◌∙◌, append_assoc, append-nil, subst}
use Rattle.std.proofs.Common.{arith, if◌then◌else◌, slice_index_or}
use Rattle.std.specs.Prelude.{slice_get, option_map, option_to_list, ◌==◌, drop}
use Rattle.std.proofs.lemmas.Bool.{cases_lt}
use Rattle.std.proofs.lemmas.List.{get_or_past, length-set}
use Rattle.l2_types.specs.declared.side.Side.{Side}
use Rattle.l2_types.specs.declared.side.Side.TheVariants.{Nb, Ue}
use Rattle.rlc_pdu.specs.Reading.{am_at, umd_at}
use Rattle.bearer_types.specs.declared.config.BearerConfig.{BearerConfig}
use Rattle.bearer_types.specs.Sides.{other}
use Rattle.air_record.specs.declared.line.Line.{Line}
use Rattle.air_record.specs.declared.line.Line.TheVariants as lines
use Rattle.pdu_show.specs.declared.kinds.Layout.{Layout}
use Rattle.promises.specs.Blocks.{kinds_by}
use Rattle.pdu_show.specs.declared.kinds.Layout.TheVariants as layouts
use Rattle.journal_um.specs.declared.pieces.JoinedSdu.{JoinedSdu}
use Rattle.journal_um.specs.declared.pieces.Piece.{Piece}
use Rattle.journal_um.specs.UmEvents as come
use Rattle.journal_um.specs.UmEvents.{UmLifeEvent}
use Rattle.journal_um.specs.UmWindow.{is_dropped, leading, fallen}
use Rattle.journal_um.specs.UmJoiner.{UmJoiner, opened, with_part, closed, with_piece, with_pieces, with_pdu}
use Rattle.journal_um.specs.UmJoiner.{with_pdus, life_joined}
use Rattle.journal_um.specs.UmFlow.{UmFlow, pass, advanced, put, kept, landed, numbered, read_in, ended, flow_with}
use Rattle.journal_flows.specs.declared.account.Account.{Account}
use Rattle.journal_flows.specs.declared.account.Account.TheVariants.{Am, Um}
use Rattle.journal_flows.specs.declared.sending.Named.{Named}
use Rattle.journal_flows.specs.UmPdus.{UmFlowEvent, AtSender, AtReceiver, LifeEnded, um_parcel_by}
use Rattle.journal_flows.specs.UmKept.{UmEnds, nothing_written}
use Rattle.journal_flows.specs.NumberedPdus.{AnyEvent, Acked, Unacked, Told, parcel_by}
use Rattle.journal_flows.specs.Gathering.{Journal, parcel_in, behind_line, behind_record, behind_end}
use Rattle.journal_flows.specs.FlowsTold.{is_at}
use Rattle.journal_flows.specs.Accounts.{Accounts, Keeping, accounts, slot_at, channels_of, slot_with, slot_ended}
use Rattle.journal_flows.specs.Accounts.{acked_in, unacked_in, next_kept, front_kept, um_next_kept, um_place_kept}
use Rattle.journal_flows.specs.Accounts.{account_with, begun, account_begun, accounts_ended}
use Rattle.journal_flows.specs.Accounts.{first_joined, slot_taken, account_taken}
use Rattle.journal_flows.specs.Accounts.{no_accounts}
use Rattle.journal_flows.specs.Laws.{Deed, GoesLine, GoesRecord, GoesEnd, IsTaken, kept_by, untaken}
use Rattle.journal_flows.specs.Laws.{taken_of, before_taking, TakingIsFree}
use Rattle.journal_flows.proofs.Same.{changed_at, told_size, begun_size, ended_size, ended_at}
use Rattle.journal_flows.proofs.Gathered.{Agree, Alike, record_alike}

-- ---- an event of a flow

abbrev ready_before : List JoinedSdu → UmJoiner → UmJoiner
ready_before t j = record j { ready = t ++ j.ready }

closed_before : (t : List JoinedSdu) (place : ℕ) (part : Option (List ℕ)) (j : UmJoiner)
    → closed place part (ready_before t j) ≡ ready_before t (closed place part j)
closed_before t place None j = refl
closed_before t place (Some octets) j =
    ap (λ (l : List JoinedSdu). record (closed place (Some octets) j) { ready = l })
    (append_assoc t j.ready (record { place = place; octets = octets } ∷ []))

piece_before : (t : List JoinedSdu) (ends : Bool) (place : ℕ) (part : Option (List ℕ)) (j : UmJoiner)
    → (if ends then closed place part (ready_before t j) else with_part part (ready_before t j))
    ≡ ready_before t (if ends then closed place part j else with_part part j)
piece_before t true place part j = closed_before t place part j
piece_before t false place part j = refl

pieces_before : (t : List JoinedSdu) (ps : List Piece) (j : UmJoiner)
    → with_pieces ps (ready_before t j) ≡ ready_before t (with_pieces ps j)
pieces_before t [] j = refl
pieces_before t (p ∷ ps) j =
    ap (with_pieces ps) (piece_before t p.ends p.place (opened p j.part) j)
    ∙ pieces_before t ps (with_piece p j)

pdu_before : (t : List JoinedSdu) (o : Option (List Piece)) (j : UmJoiner)
    → with_pdu o (ready_before t j) ≡ ready_before t (with_pdu o j)
pdu_before t None j = refl
pdu_before t (Some ps) j = pieces_before t ps j

pdus_before : (t : List JoinedSdu) (os : List (Option (List Piece))) (j : UmJoiner)
    → with_pdus os (ready_before t j) ≡ ready_before t (with_pdus os j)
pdus_before t [] j = refl
pdus_before t (o ∷ os) j = ap (with_pdus os) (pdu_before t o j) ∙ pdus_before t os (with_pdu o j)

pass_before : (t : List JoinedSdu) (n : ℕ) (f : UmFlow)
    → pass n (before_taking t f) ≡ before_taking t (pass n f)
pass_before t n f =
    ap (λ (j : UmJoiner). record (pass n f) { joiner = j }) (pdus_before t (take n f.window.pdus) f.joiner)

put_before : (t : List JoinedSdu) (at : ℕ) (pieces : List Piece) (f : UmFlow)
    → put at pieces (before_taking t f) ≡ before_taking t (put at pieces f)
put_before t at pieces f =
    ap (λ (j : UmJoiner). record (put at pieces f) { joiner = j })
    (pdus_before t (take (fallen f.window at) f.window.pdus) f.joiner)

advanced_before : (t : List JoinedSdu) (f : UmFlow) → advanced (before_taking t f) ≡ before_taking t (advanced f)
advanced_before t f = pass_before t (leading f.window.pdus) f

landed_before : (t : List JoinedSdu) (o : Option ℕ) (pieces : List Piece) (f : UmFlow)
    → landed o pieces (before_taking t f) ≡ before_taking t (landed o pieces f)
landed_before t None pieces f = refl
landed_before t (Some n) pieces f = by (is_dropped n f.window)
  where
    by : (b : Bool)
        → (if b then before_taking t f else kept (n - f.window.edge) pieces (before_taking t f))
        ≡ before_taking t (if b then f else kept (n - f.window.edge) pieces f)
    by true = refl
    by false =
        ap advanced (put_before t (n - f.window.edge) pieces f)
        ∙ advanced_before t (put (n - f.window.edge) pieces f)

flow_before : (t : List JoinedSdu) (e : UmLifeEvent) (f : UmFlow)
    → flow_with e (before_taking t f) ≡ before_taking t (flow_with e f)
flow_before t (come.InLife (come.PduArrived number pieces)) f =
    landed_before t (read_in number f) pieces (numbered number f)
flow_before t (come.InLife come.ReorderStarted) f = refl
flow_before t (come.InLife come.ReorderExpired) f =
    ap advanced (pass_before t (f.mark - f.window.edge) f) ∙ advanced_before t (pass (f.mark - f.window.edge) f)
flow_before t come.LifeEnded f =
    ap (λ (j : UmJoiner). record (ended f) { joiner = life_joined j }) (pdus_before t f.window.pdus f.joiner)

-- ---- an event of a channel

abbrev slot_before : List JoinedSdu → Option Account → Option Account
slot_before t None = None
slot_before t (Some (Am l)) = Some (Am l)
slot_before t (Some (Um u)) = Some (Um (record { sender = u.sender; flow = before_taking t u.flow }))

um_before : (t : List JoinedSdu) (e : UmFlowEvent) (u : UmEnds)
    → slot_with (Unacked e) (slot_before t (Some (Um u))) ≡ slot_before t (slot_with (Unacked e) (Some (Um u)))
um_before t (AtSender e) u = refl
um_before t (AtReceiver e) u =
    ap (λ (f : UmFlow). Some (Um (record { sender = u.sender; flow = f }))) (flow_before t (come.InLife e) u.flow)
um_before t LifeEnded u =
    ap (λ (f : UmFlow). slot_as f) (flow_before t come.LifeEnded u.flow)
  where
    slot_as : UmFlow → Option Account
    slot_as f = Some (Um (record { sender = nothing_written; flow = f }))

slot_step : (t : List JoinedSdu) (e : AnyEvent) (slot : Option Account)
    → slot_with e (slot_before t slot) ≡ slot_before t (slot_with e slot)
slot_step t (Acked e) None = refl
slot_step t (Acked e) (Some (Am l)) = refl
slot_step t (Acked e) (Some (Um u)) = refl
slot_step t (Unacked e) None = refl
slot_step t (Unacked e) (Some (Am l)) = refl
slot_step t (Unacked e) (Some (Um u)) = um_before t e u

slot_end : (t : List JoinedSdu) (slot : Option Account)
    → slot_ended (slot_before t slot) ≡ slot_before t (slot_ended slot)
slot_end t None = refl
slot_end t (Some (Am l)) = refl
slot_end t (Some (Um u)) = um_before t LifeEnded u

slot_whole : (slot : Option Account) → slot_before [] slot ≡ slot
slot_whole None = refl
slot_whole (Some (Am l)) = refl
slot_whole (Some (Um u)) = refl

-- ---- all flows

record Less (t : Side → ℕ → List JoinedSdu) (a b : Accounts) : Type 0 where
  one : (side : Side) → length (channels_of side a) ≡ 11
  two : (side : Side) → length (channels_of side b) ≡ 11
  is : (side : Side) (lcid : ℕ) → lcid ≤ 10
      → slot_before (t side lcid) (slot_at side lcid a) ≡ slot_at side lcid b

abbrev changed_if : (Option Account → Option Account) → Bool → Option Account → Option Account
changed_if f b slot = if b then f slot else slot

with_at : (e : AnyEvent) (own : ℕ) (a : Accounts) (from side : Side) (l : ℕ)
    → ((s : Side) → length (channels_of s a) ≡ 11) → l ≤ 10
    → slot_at side l (account_with from own e a) ≡ changed_if (slot_with e) (is_at from own side l) (slot_at side l a)
with_at e own a Nb Nb l size low = changed_at (slot_with e) a.nb own l (size Nb) low
with_at e own a Nb Ue l size low = refl
with_at e own a Ue Nb l size low = refl
with_at e own a Ue Ue l size low = changed_at (slot_with e) a.ue own l (size Ue) low

told_less : (t : Side → ℕ → List JoinedSdu) (told : Told) (a b : Accounts) → Less t a b
    → Less t (accounts.tells told a) (accounts.tells told b)
told_less t told a b h = record {
  one = λ side. told_size told a side (h.one side);
  two = λ side. told_size told b side (h.two side);
  is = λ side l low. ap (slot_before (t side l)) (with_at told.event told.lcid a told.side side l h.one low)
      ∙ by side l low (is_at told.side told.lcid side l)
      ∙ sym (with_at told.event told.lcid b told.side side l h.two low);
}
  where
    by : (side : Side) (l : ℕ) → l ≤ 10 → (yes : Bool)
        → slot_before (t side l) (changed_if (slot_with told.event) yes (slot_at side l a))
        ≡ changed_if (slot_with told.event) yes (slot_at side l b)
    by side l low true =
        sym (slot_step (t side l) told.event (slot_at side l a)) ∙ ap (slot_with told.event) (h.is side l low)
    by side l low false = h.is side l low

-- ---- PDUs are read alike

next_less : (t : List JoinedSdu) (slot : Option Account) → next_kept (slot_before t slot) ≡ next_kept slot
next_less t None = refl
next_less t (Some (Am l)) = refl
next_less t (Some (Um u)) = refl

front_less : (t : List JoinedSdu) (slot : Option Account) → front_kept (slot_before t slot) ≡ front_kept slot
front_less t None = refl
front_less t (Some (Am l)) = refl
front_less t (Some (Um u)) = refl

um_next_less : (t : List JoinedSdu) (slot : Option Account) → um_next_kept (slot_before t slot) ≡ um_next_kept slot
um_next_less t None = refl
um_next_less t (Some (Am l)) = refl
um_next_less t (Some (Um u)) = refl

um_place_less : (t : List JoinedSdu) (slot : Option Account) → um_place_kept (slot_before t slot) ≡ um_place_kept slot
um_place_less t None = refl
um_place_less t (Some (Am l)) = refl
um_place_less t (Some (Um u)) = refl

nothing_past : (a : Accounts) (side : Side) (l : ℕ) → 10 < l → length (channels_of side a) ≡ 11
    → slot_at side l a ≡ None
nothing_past a side l past size = get_or_past (channels_of side a) l None (omega (arith, past, size))

slots_less : (t : Side → ℕ → List JoinedSdu) (a b : Accounts) (side : Side) (l : ℕ) → Less t a b
    → slot_before (t side l) (slot_at side l a) ≡ slot_at side l b
slots_less t a b side l h = elim (cases_lt 10 l) [
  | inl past ↦
      ap (slot_before (t side l)) (nothing_past a side l past (h.one side))
      ∙ sym (nothing_past b side l past (h.two side))
  | inr low ↦ h.is side l low
]

reads_less : (t : Side → ℕ → List JoinedSdu) (layout : Option Layout) (a b : Accounts) (from : Side) (s : Named)
    (octets : List ℕ) → Less t a b
    → parcel_in accounts layout a from s octets ≡ parcel_in accounts layout b from s octets
reads_less t None a b from s octets h = refl
reads_less t (Some layouts.Tm) a b from s octets h = refl
reads_less t (Some (layouts.Am kind)) a b from s octets h =
    ap (λ (n : ℕ). parcel_by n (front_kept (slot_at (other from) s.lcid a)) s.lcid s.how (am_at octets))
    (sym (next_less (t from s.lcid) (slot_at from s.lcid a)) ∙ ap next_kept (slots_less t a b from s.lcid h))
    ∙ ap (λ (n : ℕ). parcel_by (next_kept (slot_at from s.lcid b)) n s.lcid s.how (am_at octets))
    (sym (front_less (t (other from) s.lcid) (slot_at (other from) s.lcid a))
    ∙ ap front_kept (slots_less t a b (other from) s.lcid h))
reads_less t (Some (layouts.Um bits kind)) a b from s octets h =
    ap (λ (n : ℕ). um_parcel_by n (um_place_kept (slot_at from s.lcid a)) s.lcid s.how (umd_at bits octets))
    (sym (um_next_less (t from s.lcid) (slot_at from s.lcid a)) ∙ ap um_next_kept (slots_less t a b from s.lcid h))
    ∙ ap (λ (n : ℕ). um_parcel_by (um_next_kept (slot_at from s.lcid b)) n s.lcid s.how (umd_at bits octets))
    (sym (um_place_less (t from s.lcid) (slot_at from s.lcid a)) ∙ ap um_place_kept (slots_less t a b from s.lcid h))

less_agree : (t : Side → ℕ → List JoinedSdu) (kinds : List (Option Layout))
    → Agree Accounts Accounts accounts accounts kinds (Less t)
less_agree t kinds = record {
  tells = λ told a b h. told_less t told a b h;
  reads = λ a b from s octets h. reads_less t (slice_index_or kinds s.lcid None) a b from s octets h;
}

-- ---- a bearer begins, all lives end, and an SDU is taken

abbrev begun_less : BearerConfig → (Side → ℕ → List JoinedSdu) → Side → ℕ → List JoinedSdu
begun_less config t side lcid = if config.channel.lcid == lcid then [] else t side lcid

begun_slot : (config : BearerConfig) (a : Accounts) (side : Side) (l : ℕ)
    → ((s : Side) → length (channels_of s a) ≡ 11) → l ≤ 10
    → slot_at side l (account_begun config a)
    ≡ changed_if (λ (slot : Option Account). begun config) (config.channel.lcid == l) (slot_at side l a)
begun_slot config a Nb l size low =
    changed_at (λ (slot : Option Account). begun config) a.nb config.channel.lcid l (size Nb) low
begun_slot config a Ue l size low =
    changed_at (λ (slot : Option Account). begun config) a.ue config.channel.lcid l (size Ue) low

begins_less : (t : Side → ℕ → List JoinedSdu) (config : BearerConfig) (a b : Accounts) → Less t a b
    → Less (begun_less config t) (account_begun config a) (account_begun config b)
begins_less t config a b h = record {
  one = λ side. begun_size config a side (h.one side);
  two = λ side. begun_size config b side (h.two side);
  is = λ side l low. ap (slot_before (begun_less config t side l)) (begun_slot config a side l h.one low)
      ∙ by side l low (config.channel.lcid == l) ∙ sym (begun_slot config b side l h.two low);
}
  where
    by : (side : Side) (l : ℕ) → l ≤ 10 → (yes : Bool)
        → slot_before (if yes then [] else t side l)
        (changed_if (λ (slot : Option Account). begun config) yes (slot_at side l a))
        ≡ changed_if (λ (slot : Option Account). begun config) yes (slot_at side l b)
    by side l low true = slot_whole (begun config)
    by side l low false = h.is side l low

ended_slot : (a : Accounts) (side : Side) (l : ℕ) → ((s : Side) → length (channels_of s a) ≡ 11) → l ≤ 10
    → slot_at side l (accounts_ended a) ≡ slot_ended (slot_at side l a)
ended_slot a Nb l size low = ended_at a.nb l (size Nb) low
ended_slot a Ue l size low = ended_at a.ue l (size Ue) low

ends_less : (t : Side → ℕ → List JoinedSdu) (a b : Accounts) → Less t a b
    → Less t (accounts_ended a) (accounts_ended b)
ends_less t a b h = record {
  one = λ side. ended_size a side (h.one side);
  two = λ side. ended_size b side (h.two side);
  is = λ side l low. ap (slot_before (t side l)) (ended_slot a side l h.one low)
      ∙ sym (slot_end (t side l) (slot_at side l a)) ∙ ap slot_ended (h.is side l low)
      ∙ sym (ended_slot b side l h.two low);
}

taken_slot : (own : ℕ) (a : Accounts) (from side : Side) (l : ℕ)
    → ((s : Side) → length (channels_of s a) ≡ 11) → l ≤ 10
    → slot_at side l (account_taken from own a) ≡ changed_if slot_taken (is_at from own side l) (slot_at side l a)
taken_slot own a Nb Nb l size low = changed_at slot_taken a.nb own l (size Nb) low
taken_slot own a Nb Ue l size low = refl
taken_slot own a Ue Nb l size low = refl
taken_slot own a Ue Ue l size low = changed_at slot_taken a.ue own l (size Ue) low

taken_size : (own : ℕ) (a : Accounts) (from side : Side) → length (channels_of side a) ≡ 11
    → length (channels_of side (account_taken from own a)) ≡ 11
taken_size own a Nb Nb h = length-set a.nb own (slot_taken (slice_index_or a.nb own None)) ∙ h
taken_size own a Nb Ue h = h
taken_size own a Ue Nb h = h
taken_size own a Ue Ue h = length-set a.ue own (slot_taken (slice_index_or a.ue own None)) ∙ h

one_more : (t ready : List JoinedSdu) → (t ++ option_to_list (slice_get ready 0)) ++ drop 1 ready ≡ t ++ ready
one_more t [] = append-nil (t ++ [])
one_more t (sdu ∷ ready) = append_assoc t (sdu ∷ []) ready

retaken : (t : List JoinedSdu) (slot : Option Account)
    → slot_before (t ++ option_to_list (first_joined (unacked_in slot))) (slot_taken slot) ≡ slot_before t slot
retaken t None = refl
retaken t (Some (Am l)) = refl
retaken t (Some (Um u)) =
    ap (λ (l : List JoinedSdu). Some (Um (record {
      sender = u.sender;
      flow = record u.flow { joiner = record u.flow.joiner { ready = l } };
    }))) (one_more t u.flow.joiner.ready)

abbrev more_taken : Accounts → Side → ℕ → (Side → ℕ → List JoinedSdu) → Side → ℕ → List JoinedSdu
more_taken a from own t side lcid =
    t side lcid ++ (if is_at from own side lcid then option_to_list (first_joined (unacked_in (slot_at side lcid a)))
    else [])

takes_less : (t : Side → ℕ → List JoinedSdu) (from : Side) (own : ℕ) (a b : Accounts) → Less t a b
    → Less (more_taken a from own t) (account_taken from own a) b
takes_less t from own a b h = record {
  one = λ side. taken_size own a from side (h.one side);
  two = h.two;
  is = λ side l low. ap (slot_before (more_taken a from own t side l)) (taken_slot own a from side l h.one low)
      ∙ by side l low (is_at from own side l);
}
  where
    by : (side : Side) (l : ℕ) → l ≤ 10 → (yes : Bool)
        → slot_before (t side l
        ++ (if yes then option_to_list (first_joined (unacked_in (slot_at side l a))) else []))
        (changed_if slot_taken yes (slot_at side l a)) ≡ slot_at side l b
    by side l low true = retaken (t side l) (slot_at side l a) ∙ h.is side l low
    by side l low false =
        ap (λ (u : List JoinedSdu). slot_before u (slot_at side l a)) (append-nil (t side l)) ∙ h.is side l low

-- ---- whatever is done

abbrev all_taken : List Deed → Side → ℕ → List JoinedSdu
all_taken deeds side lcid = taken_of side lcid deeds

record Stands (deeds : List Deed) (k w : Keeping) : Type 0 where
  kinds_are : k.kinds ≡ w.kinds
  journal : Alike Accounts Accounts (Less (all_taken deeds)) k.journal w.journal
  hands_over : k.hands_over ≡ w.hands_over

line_less : (deeds : List Deed) (line : Line) (j w : Journal Accounts)
    → Alike Accounts Accounts (Less (all_taken deeds)) j w
    → Alike Accounts Accounts (Less (all_taken (GoesLine line ∷ deeds))) (behind_line accounts line j)
    (behind_line accounts line w)
line_less deeds (lines.Bearer config options) j w s = record {
  flows = begins_less (all_taken deeds) config j.flows w.flows s.flows;
  nb = s.nb;
  ue = s.ue;
}
line_less deeds line j w s = s

end_less : (t : Side → ℕ → List JoinedSdu) (ends : Bool) (j w : Journal Accounts)
    → Alike Accounts Accounts (Less t) j w
    → Alike Accounts Accounts (Less t) (behind_end accounts ends j) (behind_end accounts ends w)
end_less t true j w s = record { flows = ends_less t j.flows w.flows s.flows; nb = refl; ue = refl }
end_less t false j w s = s

none_there : (side : Side) (lcid : ℕ) → slot_before [] (slot_at side lcid no_accounts) ≡ slot_at side lcid no_accounts
none_there side lcid = slot_whole (slot_at side lcid no_accounts)

sizes : (side : Side) → length (channels_of side no_accounts) ≡ 11
sizes Nb = refl
sizes Ue = refl

stands : (deeds : List Deed) → Stands deeds (kept_by deeds) (kept_by (untaken deeds))
stands [] = record {
  kinds_are = refl;
  journal = record {
    flows = record { one = sizes; two = sizes; is = λ side lcid low. none_there side lcid };
    nb = refl;
    ue = refl;
  };
  hands_over = refl;
}
stands (GoesLine line ∷ deeds) =
    let s = stands deeds in
    record {
      kinds_are = ap (kinds_by line) s.kinds_are;
      journal = line_less deeds line (kept_by deeds).journal (kept_by (untaken deeds)).journal s.journal;
      hands_over = refl;
    }
stands (GoesRecord more one ∷ deeds) =
    let s = stands deeds in
    record {
      kinds_are = s.kinds_are;
      journal = subst (λ (ks : List (Option Layout)). Alike Accounts Accounts (Less (all_taken deeds))
          (behind_record accounts (kept_by deeds).kinds more one (kept_by deeds).journal)
          (behind_record accounts ks more one (kept_by (untaken deeds)).journal)) s.kinds_are
          (record_alike Accounts Accounts accounts accounts (kept_by deeds).kinds (Less (all_taken deeds))
          (less_agree (all_taken deeds) (kept_by deeds).kinds) more one (kept_by deeds).journal
          (kept_by (untaken deeds)).journal s.journal);
      hands_over = s.hands_over;
    }
stands (GoesEnd ∷ deeds) =
    let s = stands deeds in
    record {
      kinds_are = s.kinds_are;
      journal = subst (λ (b : Bool). Alike Accounts Accounts (Less (all_taken deeds))
          (behind_end accounts (kept_by deeds).hands_over (kept_by deeds).journal)
          (behind_end accounts b (kept_by (untaken deeds)).journal)) s.hands_over
          (end_less (all_taken deeds) (kept_by deeds).hands_over (kept_by deeds).journal
          (kept_by (untaken deeds)).journal s.journal);
      hands_over = refl;
    }
stands (IsTaken side lcid ∷ deeds) =
    let s = stands deeds in
    record {
      kinds_are = s.kinds_are;
      journal = record {
        flows = takes_less (all_taken deeds) side lcid (kept_by deeds).journal.flows
            (kept_by (untaken deeds)).journal.flows s.journal.flows;
        nb = s.journal.nb;
        ue = s.journal.ue;
      };
      hands_over = s.hands_over;
    }

acked_whole : (t : List JoinedSdu) (slot : Option Account) → acked_in slot ≡ acked_in (slot_before t slot)
acked_whole t None = refl
acked_whole t (Some (Am l)) = refl
acked_whole t (Some (Um u)) = refl

unacked_whole : (t : List JoinedSdu) (slot : Option Account)
    → option_map (before_taking t) (unacked_in slot) ≡ unacked_in (slot_before t slot)
unacked_whole t None = refl
unacked_whole t (Some (Am l)) = refl
unacked_whole t (Some (Um u)) = refl

pub taking_is_free : TakingIsFree
taking_is_free deeds side lcid low =
    let is = (stands deeds).journal.flows.is side lcid low in
    let slot = slot_at side lcid (kept_by deeds).journal.flows in
    record {
      acked = acked_whole (taken_of side lcid deeds) slot ∙ ap acked_in is;
      unacked = unacked_whole (taken_of side lcid deeds) slot ∙ ap unacked_in is;
    }
