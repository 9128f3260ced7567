-- SDUs that unacknowledged flows hand up may be taken at any time: what is given is as if none were.
use Rattle.std.proofs.Common.{◌≡◌, ℕ, zero, suc, ◌+◌, Bool, true, false, List, [], ◌∷◌, map, Option, Some, None}
use Rattle.std.proofs.Common.{refl, ap, sym, ◌∙◌, subst, if◌then◌else◌, slice_set, slice_index_or}
use Rattle.std.specs.Prelude.{option_map}
use Rattle.l2_types.specs.declared.event.Clock.TheVariants.{Poll}
use Rattle.l2_types.specs.declared.side.Side.{Side}
use Rattle.l2_types.specs.declared.side.Side.TheVariants.{Nb, Ue}
use Rattle.rlc_pdu.specs.Reading.{am_at, umd_at}
use Rattle.bearer_types.specs.declared.event.Event.{Event}
use Rattle.bearer_types.specs.declared.event.Event.TheVariants as events
use Rattle.bearer_types.specs.Sides.{other, sender_of}
use Rattle.air_record.specs.declared.line.Line.{Line}
use Rattle.air_record.specs.declared.line.Line.TheVariants as lines
use Rattle.air_record.specs.declared.record.Record.{Record}
use Rattle.air_record.specs.declared.record.Record.TheVariants as records
use Rattle.pdu_show.specs.declared.kinds.Layout.{Layout}
use Rattle.pdu_show.specs.declared.kinds.Layout.TheVariants as layouts
use Rattle.promises.specs.Blocks.{kinds_by}
use Rattle.promises.specs.Records.{is_got}
use Rattle.journal_lives.specs.FlowLives.{FlowLives}
use Rattle.journal_takes.specs.FlowTakes.{FlowTakes}
use Rattle.journal_um.specs.UmFlow.{empty_flow}
use Rattle.journal_flows.specs.declared.account.Account.{Account}
use Rattle.journal_flows.specs.declared.account.Account.TheVariants.{Am, Um}
use Rattle.journal_flows.specs.declared.sending.Named.{Named}
use Rattle.journal_flows.specs.UmPdus.{AtSender, AtReceiver, LifeEnded, um_parcel_by}
use Rattle.journal_flows.specs.NumberedPdus.{AnyEvent, Acked, Unacked, carries_status, parcel_by}
use Rattle.journal_flows.specs.Gathering.{Journal, Sending, sending_of, sent_last, parcel_in, behind_line}
use Rattle.journal_flows.specs.Gathering.{behind_record, behind_end}
use Rattle.journal_flows.specs.Accounts.{Accounts, Keeping, accounts as flows_kept, slot_at, account_at}
use Rattle.journal_flows.specs.Accounts.{slot_with, slot_ended, slot_taken, acked_in, next_kept, front_kept}
use Rattle.journal_flows.specs.Accounts.{um_next_kept, um_place_kept, channel_with, account_with, begun}
use Rattle.journal_flows.specs.Accounts.{channels_ended, channel_taken, account_taken}
use Rattle.journal_flows.specs.Accounts.{after_line as line_kept, after_record as record_kept}
use Rattle.journal_flows.specs.Accounts.{after_group as group_kept, after_taking}
use Rattle.journal_flows.specs.Laws as flows
use Rattle.journal_flows.proofs.Gathered.{Agree, Alike, sending_alike, record_alike}
use Rattle.air_record.specs.declared.submission.Submission.{Submission}
use Rattle.air_record.specs.Submissions.{unrefused}
use Rattle.journal_given.specs.Supplies.{Keeper, Bearer, accounts}
use Rattle.journal_given.specs.Giving.{Giving, landed, lives_ended, each_from, landed_on, ended_on, may_take}
use Rattle.journal_given.specs.Giving.{submits_own, with_submitted, line_submitted, settled, happens, tells}
use Rattle.journal_given.specs.Giving.{with_kept, record_told, after_record, after_line, hands_on, at_rest, after_group}
use Rattle.journal_given.specs.Laws.{Deed, GoesLine, GoesRecord, GoesEnd, IsTaken, given_by, untaken, flows_done}
use Rattle.journal_given.specs.Laws.{AreTaken, TakingIsFree}
use Rattle.journal_given.proofs.Ties.{own_keeps, settled_keeps, record_keeps, group_keeps}

-- ---- accounts, but for what an unacknowledged flow's receiver has

abbrev bare : Option Account → Option Account
bare None = None
bare (Some (Am l)) = Some (Am l)
bare (Some (Um u)) = Some (Um (record { sender = u.sender; flow = empty_flow 1 1 }))

abbrev all_bare : List (Option Account) → List (Option Account)
all_bare channels = map bare channels

set_bare : (channels : List (Option Account)) (at : ℕ) (slot : Option Account)
    → all_bare (slice_set channels at slot) ≡ slice_set (all_bare channels) at (bare slot)
set_bare [] at slot = refl
set_bare (x ∷ xs) zero slot = refl
set_bare (x ∷ xs) (suc at) slot = ap (λ (ys : List (Option Account)). bare x ∷ ys) (set_bare xs at slot)

at_bare : (channels : List (Option Account)) (l : ℕ)
    → bare (slice_index_or channels l None) ≡ slice_index_or (all_bare channels) l None
at_bare [] l = refl
at_bare (x ∷ xs) zero = refl
at_bare (x ∷ xs) (suc l) = at_bare xs l

pub record Same (a b : Accounts) : Type 0 where
  pub nb : all_bare a.nb ≡ all_bare b.nb
  pub ue : all_bare a.ue ≡ all_bare b.ue

slot_same : (side : Side) (l : ℕ) (a b : Accounts) → Same a b → bare (slot_at side l a) ≡ bare (slot_at side l b)
slot_same Nb l a b s =
    at_bare a.nb l ∙ ap (λ (xs : List (Option Account)). slice_index_or xs l None) s.nb ∙ sym (at_bare b.nb l)
slot_same Ue l a b s =
    at_bare a.ue l ∙ ap (λ (xs : List (Option Account)). slice_index_or xs l None) s.ue ∙ sym (at_bare b.ue l)

-- ---- an event

with_bare : (e : AnyEvent) (slot : Option Account) → bare (slot_with e slot) ≡ bare (slot_with e (bare slot))
with_bare (Acked e) None = refl
with_bare (Acked e) (Some (Am l)) = refl
with_bare (Acked e) (Some (Um u)) = refl
with_bare (Unacked e) None = refl
with_bare (Unacked e) (Some (Am l)) = refl
with_bare (Unacked (AtSender e)) (Some (Um u)) = refl
with_bare (Unacked (AtReceiver e)) (Some (Um u)) = refl
with_bare (Unacked LifeEnded) (Some (Um u)) = refl

abbrev bare_with : ℕ → AnyEvent → List (Option Account) → List (Option Account)
bare_with lcid e channels = slice_set channels lcid (bare (slot_with e (slice_index_or channels lcid None)))

channel_bare : (lcid : ℕ) (e : AnyEvent) (channels : List (Option Account))
    → all_bare (channel_with lcid e channels) ≡ bare_with lcid e (all_bare channels)
channel_bare lcid e channels =
    set_bare channels lcid (slot_with e (slice_index_or channels lcid None))
    ∙ ap (slice_set (all_bare channels) lcid) (with_bare e (slice_index_or channels lcid None)
    ∙ ap (λ (slot : Option Account). bare (slot_with e slot)) (at_bare channels lcid))

channel_same : (lcid : ℕ) (e : AnyEvent) (xs ys : List (Option Account)) → all_bare xs ≡ all_bare ys
    → all_bare (channel_with lcid e xs) ≡ all_bare (channel_with lcid e ys)
channel_same lcid e xs ys s = channel_bare lcid e xs ∙ ap (bare_with lcid e) s ∙ sym (channel_bare lcid e ys)

event_same : (side : Side) (lcid : ℕ) (e : AnyEvent) (a b : Accounts) → Same a b
    → Same (account_with side lcid e a) (account_with side lcid e b)
event_same Nb lcid e a b s = record { nb = channel_same lcid e a.nb b.nb s.nb; ue = s.ue }
event_same Ue lcid e a b s = record { nb = s.nb; ue = channel_same lcid e a.ue b.ue s.ue }

-- ---- PDUs are read alike

next_bare : (slot : Option Account) → next_kept slot ≡ next_kept (bare slot)
next_bare None = refl
next_bare (Some (Am l)) = refl
next_bare (Some (Um u)) = refl

front_bare : (slot : Option Account) → front_kept slot ≡ front_kept (bare slot)
front_bare None = refl
front_bare (Some (Am l)) = refl
front_bare (Some (Um u)) = refl

um_next_bare : (slot : Option Account) → um_next_kept slot ≡ um_next_kept (bare slot)
um_next_bare None = refl
um_next_bare (Some (Am l)) = refl
um_next_bare (Some (Um u)) = refl

um_place_bare : (slot : Option Account) → um_place_kept slot ≡ um_place_kept (bare slot)
um_place_bare None = refl
um_place_bare (Some (Am l)) = refl
um_place_bare (Some (Um u)) = refl

told_same : (f : Option Account → ℕ) → ((slot : Option Account) → f slot ≡ f (bare slot))
    → (side : Side) (l : ℕ) (a b : Accounts) → Same a b → f (slot_at side l a) ≡ f (slot_at side l b)
told_same f of_bare side l a b s =
    of_bare (slot_at side l a) ∙ ap f (slot_same side l a b s) ∙ sym (of_bare (slot_at side l b))

reads_same : (layout : Option Layout) (a b : Accounts) (from : Side) (s : Named) (octets : List ℕ) → Same a b
    → parcel_in flows_kept layout a from s octets ≡ parcel_in flows_kept layout b from s octets
reads_same None a b from s octets h = refl
reads_same (Some layouts.Tm) a b from s octets h = refl
reads_same (Some (layouts.Am kind)) a b from s octets h =
    ap (λ (n : ℕ). parcel_by n (front_kept (slot_at (other from) s.lcid a)) s.lcid s.how (am_at octets))
    (told_same next_kept next_bare from s.lcid a b h)
    ∙ ap (λ (n : ℕ). parcel_by (next_kept (slot_at from s.lcid b)) n s.lcid s.how (am_at octets))
    (told_same front_kept front_bare (other from) s.lcid a b h)
reads_same (Some (layouts.Um bits kind)) a b from s octets h =
    ap (λ (n : ℕ). um_parcel_by n (um_place_kept (slot_at from s.lcid a)) s.lcid s.how (umd_at bits octets))
    (told_same um_next_kept um_next_bare from s.lcid a b h)
    ∙ ap (λ (n : ℕ). um_parcel_by (um_next_kept (slot_at from s.lcid b)) n s.lcid s.how (umd_at bits octets))
    (told_same um_place_kept um_place_bare from s.lcid a b h)

agree : (kinds : List (Option Layout)) → Agree Accounts Accounts flows_kept flows_kept kinds Same
agree kinds = record {
  tells = λ t a b s. event_same t.side t.lcid t.event a b s;
  reads = λ a b from one octets s. reads_same (slice_index_or kinds one.lcid None) a b from one octets s;
}

-- ---- a bearer begins, all lives end, and an SDU is taken

begun_same : (lcid : ℕ) (slot : Option Account) (xs ys : List (Option Account)) → all_bare xs ≡ all_bare ys
    → all_bare (slice_set xs lcid slot) ≡ all_bare (slice_set ys lcid slot)
begun_same lcid slot xs ys s =
    set_bare xs lcid slot ∙ ap (λ (zs : List (Option Account)). slice_set zs lcid (bare slot)) s
    ∙ sym (set_bare ys lcid slot)

ended_bare : (slot : Option Account) → bare (slot_ended slot) ≡ bare (slot_ended (bare slot))
ended_bare None = refl
ended_bare (Some (Am l)) = refl
ended_bare (Some (Um u)) = refl

abbrev bare_ended : List (Option Account) → List (Option Account)
bare_ended channels = map (λ (slot : Option Account). bare (slot_ended slot)) channels

all_ended_bare : (channels : List (Option Account))
    → all_bare (channels_ended channels) ≡ bare_ended (all_bare channels)
all_ended_bare [] = refl
all_ended_bare (x ∷ xs) =
    ap (λ (slot : Option Account). slot ∷ all_bare (channels_ended xs)) (ended_bare x)
    ∙ ap (λ (ys : List (Option Account)). bare (slot_ended (bare x)) ∷ ys) (all_ended_bare xs)

ended_same : (xs ys : List (Option Account)) → all_bare xs ≡ all_bare ys
    → all_bare (channels_ended xs) ≡ all_bare (channels_ended ys)
ended_same xs ys s = all_ended_bare xs ∙ ap bare_ended s ∙ sym (all_ended_bare ys)

taken_bare : (slot : Option Account) → bare (slot_taken slot) ≡ bare slot
taken_bare None = refl
taken_bare (Some (Am l)) = refl
taken_bare (Some (Um u)) = refl

channel_taken_bare : (lcid : ℕ) (channels : List (Option Account))
    → all_bare (channel_taken lcid channels) ≡ all_bare channels
channel_taken_bare lcid [] = refl
channel_taken_bare zero (x ∷ xs) = ap (λ (slot : Option Account). slot ∷ all_bare xs) (taken_bare x)
channel_taken_bare (suc lcid) (x ∷ xs) =
    ap (λ (ys : List (Option Account)). bare x ∷ ys) (channel_taken_bare lcid xs)

taken_same : (side : Side) (lcid : ℕ) (a b : Accounts) → Same a b → Same (account_taken side lcid a) b
taken_same Nb lcid a b s = record { nb = channel_taken_bare lcid a.nb ∙ s.nb; ue = s.ue }
taken_same Ue lcid a b s = record { nb = s.nb; ue = channel_taken_bare lcid a.ue ∙ s.ue }

-- ---- what is kept, but for that

pub record SameKept (k w : Keeping) : Type 0 where
  pub kinds : k.kinds ≡ w.kinds
  pub journal : Alike Accounts Accounts Same k.journal w.journal
  pub hands_over : k.hands_over ≡ w.hands_over

pub same_self : (k : Keeping) → SameKept k k
same_self k = record {
  kinds = refl;
  journal = record { flows = record { nb = refl; ue = refl }; nb = refl; ue = refl };
  hands_over = refl;
}

line_alike : (line : Line) (j i : Journal Accounts) → Alike Accounts Accounts Same j i
    → Alike Accounts Accounts Same (behind_line flows_kept line j) (behind_line flows_kept line i)
line_alike (lines.Bearer config options) j i s = record {
  flows = record {
    nb = begun_same config.channel.lcid (begun config) j.flows.nb i.flows.nb s.flows.nb;
    ue = begun_same config.channel.lcid (begun config) j.flows.ue i.flows.ue s.flows.ue;
  };
  nb = s.nb;
  ue = s.ue;
}
line_alike line j i s = s

end_alike : (ends : Bool) (j i : Journal Accounts) → Alike Accounts Accounts Same j i
    → Alike Accounts Accounts Same (behind_end flows_kept ends j) (behind_end flows_kept ends i)
end_alike true j i s = record {
  flows = record {
    nb = ended_same j.flows.nb i.flows.nb s.flows.nb;
    ue = ended_same j.flows.ue i.flows.ue s.flows.ue;
  };
  nb = refl;
  ue = refl;
}
end_alike false j i s = s

pub same_line : (line : Line) (k w : Keeping) → SameKept k w → SameKept (line_kept line k) (line_kept line w)
same_line line k w s = record {
  kinds = ap (kinds_by line) s.kinds;
  journal = line_alike line k.journal w.journal s.journal;
  hands_over = refl;
}

pub same_record : (more : Bool) (one : Record) (k w : Keeping) → SameKept k w
    → SameKept (record_kept more one k) (record_kept more one w)
same_record more one k w s = record {
  kinds = s.kinds;
  journal = subst (λ (kinds : List (Option Layout)). Alike Accounts Accounts Same
      (behind_record flows_kept k.kinds more one k.journal) (behind_record flows_kept kinds more one w.journal)) s.kinds
      (record_alike Accounts Accounts flows_kept flows_kept k.kinds Same (agree k.kinds) more one k.journal w.journal
      s.journal);
  hands_over = s.hands_over;
}

pub same_group : (k w : Keeping) → SameKept k w → SameKept (group_kept k) (group_kept w)
same_group k w s = record {
  kinds = s.kinds;
  journal = subst (λ (ends : Bool). Alike Accounts Accounts Same (behind_end flows_kept k.hands_over k.journal)
      (behind_end flows_kept ends w.journal)) s.hands_over (end_alike k.hands_over k.journal w.journal s.journal);
  hands_over = refl;
}

pub same_taken : (side : Side) (lcid : ℕ) (k w : Keeping) → SameKept k w → SameKept (after_taking side lcid k) w
same_taken side lcid k w s = record {
  kinds = s.kinds;
  journal = record {
    flows = taken_same side lcid k.journal.flows w.journal.flows s.journal.flows;
    nb = s.journal.nb;
    ue = s.journal.ue;
  };
  hands_over = s.hands_over;
}

acked_bare : (slot : Option Account) → acked_in slot ≡ acked_in (bare slot)
acked_bare None = refl
acked_bare (Some (Am l)) = refl
acked_bare (Some (Um u)) = refl

-- acknowledged flows, and what is sent, are the same
pub account_same : (side : Side) (l : ℕ) (k w : Keeping) → SameKept k w
    → account_at side l k.journal.flows ≡ account_at side l w.journal.flows
account_same side l k w s =
    acked_bare (slot_at side l k.journal.flows)
    ∙ ap acked_in (slot_same side l k.journal.flows w.journal.flows s.journal.flows)
    ∙ sym (acked_bare (slot_at side l w.journal.flows))

pub sending_same : (side : Side) (k w : Keeping) → SameKept k w → sending_of side k.journal ≡ sending_of side w.journal
sending_same side k w s = sending_alike Accounts Accounts Same side k.journal w.journal s.journal

-- ---- what is given reads no more of it

each_same : {A : Type 0} (f g : ℕ → A → A) → ((lcid : ℕ) (x : A) → f lcid x ≡ g lcid x) → (lcid : ℕ) (xs : List A)
    → each_from f lcid xs ≡ each_from g lcid xs
each_same f g same lcid [] = refl
each_same f g same lcid (x ∷ xs) =
    ap (λ (y : _). y ∷ each_from f (lcid + 1) xs) (same lcid x)
    ∙ ap (λ (ys : List _). g lcid x ∷ ys) (each_same f g same (lcid + 1) xs)

landed_same : {T : Type 0} (t : Keeper T) (from : Side) (k w : Keeping) → SameKept k w → (lcid : ℕ)
    (b : Option (Bearer T)) → landed_on t from k lcid b ≡ landed_on t from w lcid b
landed_same t from k w s lcid b =
    ap (λ (x : Sending). option_map (landed t from (carries_status lcid (sent_last x))
    (account_at from lcid k.journal.flows) (account_at (other from) lcid k.journal.flows)) b) (sending_same from k w s)
    ∙ ap (λ (own : Option FlowLives). option_map (landed t from
    (carries_status lcid (sent_last (sending_of from w.journal))) own
    (account_at (other from) lcid k.journal.flows)) b) (account_same from lcid k w s)
    ∙ ap (λ (back : Option FlowLives). option_map (landed t from
    (carries_status lcid (sent_last (sending_of from w.journal))) (account_at from lcid w.journal.flows) back) b)
    (account_same (other from) lcid k w s)

ended_on_same : {T : Type 0} (t : Keeper T) (k w : Keeping) → SameKept k w → (lcid : ℕ) (b : Option (Bearer T))
    → ended_on t k lcid b ≡ ended_on t w lcid b
ended_on_same t k w s lcid b =
    ap (λ (nb : Option FlowLives). option_map (lives_ended t nb (account_at Ue lcid k.journal.flows)) b)
    (account_same Nb lcid k w s)
    ∙ ap (λ (ue : Option FlowLives). option_map (lives_ended t (account_at Nb lcid w.journal.flows) ue) b)
    (account_same Ue lcid k w s)

own_kept : {T : Type 0} (t : Keeper T) (o : Option Submission) (k : Keeping) (g : Giving T)
    → submits_own t o (with_kept k g) ≡ with_kept k (submits_own t o g)
own_kept t None k g = refl
own_kept t (Some s) k g = refl

submitted_kept : {T : Type 0} (t : Keeper T) (k : Keeping) (g : Giving T)
    → line_submitted t (with_kept k g) ≡ with_kept k (line_submitted t g)
submitted_kept t k g = ap (λ (x : Giving _). with_submitted None x) (own_kept t g.submitted k g)

pub settled_kept : {T : Type 0} (t : Keeper T) (one : Record) (k : Keeping) (g : Giving T)
    → settled t one (with_kept k g) ≡ with_kept k (settled t one g)
settled_kept t one k g = submitted_kept t k (with_submitted (unrefused one g.submitted) g)

may_kept : {T : Type 0} (t : Keeper T) (one : Record) (k : Keeping) (g : Giving T)
    → may_take t one (with_kept k g) ≡ may_take t one g
may_kept t (records.Of side (events.Expired lcid Poll)) k g = refl
may_kept t one k g = refl

happens_kept : {T : Type 0} (t : Keeper T) (side : Side) (event : Event) (k : Keeping) (g : Giving T)
    → happens t side event (with_kept k g) ≡ with_kept k (happens t side event g)
happens_kept t side (events.Take lcid count len) k g = refl
happens_kept t side (events.Report lcid fms bitmap) k g = refl
happens_kept t side (events.Discard lcid len) k g = refl
happens_kept t side event k g = refl

tells_kept : {T : Type 0} (t : Keeper T) (one : Record) (k : Keeping) (g : Giving T) → SameKept k g.kept
    → tells t one (with_kept k g) ≡ with_kept k (tells t one g)
tells_kept t (records.Of side event) k g s = happens_kept t side event k g
tells_kept t (records.Looped lcid octets) k g s = refl
tells_kept t (records.Air direction what heard) k g s = by (is_got what)
  where
    by : (b : Bool)
        → (if b then record (with_kept k g) {
          bearers = each_from (landed_on t (sender_of direction) k) 0 g.bearers;
        } else with_kept k g)
        ≡ with_kept k (if b then record g {
          bearers = each_from (landed_on t (sender_of direction) g.kept) 0 g.bearers;
        } else g)
    by true =
        ap (λ (bs : List (Option (Bearer _))). record (with_kept k g) { bearers = bs })
        (each_same (landed_on t (sender_of direction) k) (landed_on t (sender_of direction) g.kept)
        (landed_same t (sender_of direction) k g.kept s) 0 g.bearers)
    by false = refl
tells_kept t one k g s = refl

told_kept : {T : Type 0} (t : Keeper T) (one : Record) (k : Keeping) (g : Giving T) → SameKept k g.kept
    → record_told t one (with_kept k g) ≡ with_kept (record_kept (may_take t one g) one k) (record_told t one g)
told_kept t one k g s =
    ap (λ (more : Bool). tells t one (with_kept (record_kept more one k) g)) (may_kept t one k g)
    ∙ tells_kept t one (record_kept (may_take t one g) one k)
    (with_kept (record_kept (may_take t one g) one g.kept) g) (same_record (may_take t one g) one k g.kept s)

-- a record
pub record_given : {T : Type 0} (t : Keeper T) (one : Record) (k : Keeping) (g : Giving T) → SameKept k g.kept
    → after_record t one (with_kept k g)
    ≡ with_kept (record_kept (may_take t one (settled t one g)) one k) (after_record t one g)
record_given t one k g s =
    ap (record_told t one) (settled_kept t one k g)
    ∙ told_kept t one k (settled t one g) (subst (λ (w : Keeping). SameKept k w) (sym (settled_keeps t one g)) s)

hands_kept : {T : Type 0} (t : Keeper T) (b : Bool) (k : Keeping) (g : Giving T) → SameKept k g.kept
    → hands_on t b (with_kept k g) ≡ with_kept k (hands_on t b g)
hands_kept t true k g s =
    ap (λ (bs : List (Option (Bearer _))). record (with_kept k (hands_on t true g)) { bearers = bs })
    (each_same (ended_on t k) (ended_on t g.kept) (ended_on_same t k g.kept s) 0 g.bearers)
hands_kept t false k g s = refl

-- and the end of a group
pub group_given : {T : Type 0} (t : Keeper T) (k : Keeping) (g : Giving T) → SameKept k g.kept
    → after_group t (with_kept k g) ≡ with_kept (group_kept k) (after_group t g)
group_given t k g s =
    let rest = with_kept (group_kept g.kept) g in
    ap (λ (x : Giving _). at_rest (hands_on t g.hands_over x)) (submitted_kept t (group_kept k) rest)
    ∙ ap (λ (x : Giving _). at_rest x) (hands_kept t g.hands_over (group_kept k) (line_submitted t rest)
    (subst (λ (w : Keeping). SameKept (group_kept k) w) (sym (own_keeps t g.submitted rest)) (same_group k g.kept s)))

-- ---- whatever is done

kept_same : (deeds : List flows.Deed) → SameKept (flows.kept_by deeds) (flows.kept_by (flows.untaken deeds))
kept_same [] = same_self (flows.kept_by [])
kept_same (flows.GoesLine line ∷ deeds) =
    same_line line (flows.kept_by deeds) (flows.kept_by (flows.untaken deeds)) (kept_same deeds)
kept_same (flows.GoesRecord more one ∷ deeds) =
    same_record more one (flows.kept_by deeds) (flows.kept_by (flows.untaken deeds)) (kept_same deeds)
kept_same (flows.GoesEnd ∷ deeds) =
    same_group (flows.kept_by deeds) (flows.kept_by (flows.untaken deeds)) (kept_same deeds)
kept_same (flows.IsTaken side lcid ∷ deeds) =
    same_taken side lcid (flows.kept_by deeds) (flows.kept_by (flows.untaken deeds)) (kept_same deeds)

-- the accounts that are kept, and those of what is given as if nothing were taken
same_given : (deeds : List Deed) → AreTaken deeds
    → SameKept (flows.kept_by (flows_done deeds)) (given_by (untaken deeds)).kept
same_given deeds h = subst (λ (w : Keeping). SameKept (flows.kept_by (flows_done deeds)) w) (sym h.kept)
    (kept_same (flows_done deeds))

more_same : (one : Record) (deeds : List Deed) → AreTaken deeds
    → may_take accounts one (settled accounts one (given_by deeds))
    ≡ may_take accounts one (settled accounts one (given_by (untaken deeds)))
more_same one deeds h =
    let k = flows.kept_by (flows_done deeds) in
    let g = given_by (untaken deeds) in
    ap (λ (x : Giving FlowTakes). may_take accounts one (settled accounts one x)) h.given
    ∙ ap (may_take accounts one) (settled_kept accounts one k g)
    ∙ may_kept accounts one k (settled accounts one g)

pub taking_is_free : TakingIsFree
taking_is_free [] = record { given = refl; kept = refl }
taking_is_free (GoesLine line ∷ deeds) =
    let h = taking_is_free deeds in
    record {
      given = ap (after_line accounts line) h.given;
      kept = ap (line_kept line) h.kept;
    }
taking_is_free (GoesRecord one ∷ deeds) =
    let h = taking_is_free deeds in
    let k = flows.kept_by (flows_done deeds) in
    let g = given_by (untaken deeds) in
    let more = sym (more_same one deeds h) in
    record {
      given =
          ap (after_record accounts one) h.given
          ∙ record_given accounts one k g (same_given deeds h)
          ∙ ap (λ (b : Bool). with_kept (record_kept b one (flows.kept_by (flows_done deeds)))
          (after_record accounts one (given_by (untaken deeds)))) more;
      kept =
          record_keeps accounts one g
          ∙ ap (λ (b : Bool). record_kept b one (given_by (untaken deeds)).kept) more
          ∙ ap (record_kept (may_take accounts one (settled accounts one (given_by deeds))) one) h.kept;
    }
taking_is_free (GoesEnd ∷ deeds) =
    let h = taking_is_free deeds in
    let k = flows.kept_by (flows_done deeds) in
    let g = given_by (untaken deeds) in
    record {
      given = ap (after_group accounts) h.given ∙ group_given accounts k g (same_given deeds h);
      kept = group_keeps accounts g ∙ ap (λ (w : Keeping). group_kept w) h.kept;
    }
taking_is_free (IsTaken side lcid ∷ deeds) =
    let h = taking_is_free deeds in
    record {
      given = ap (λ (g : Giving FlowTakes). with_kept (after_taking side lcid g.kept) g) h.given;
      kept = h.kept;
    }
