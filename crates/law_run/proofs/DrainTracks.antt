-- What both ends have on a channel, by the line in which its bearers come.
use Rattle.std.proofs.Common.{◌≡◌, ◌⊎◌, inl, inr, ◌<◌, ℕ, ◌^◌, ◌==◌, Bool, true, false, Option, Some, None, List, []}
use Rattle.std.proofs.Common.{◌∷◌, map, refl, ap, sym, subst, ◌∙◌, arith}
use Rattle.std.proofs.lemmas.Bool.Decides.{nat_tests}
use Rattle.std.specs.List.{AllByRecursion}
use Rattle.air_link.specs.Link.{Link}
use Rattle.air_record.specs.declared.line.Line.TheVariants as lines
use Rattle.air_record.specs.declared.record.Record.{Record}
use Rattle.air_text.specs.Groups.{Group}
use Rattle.bearer.specs.Acknowledged.State.{State, fresh as fresh_am}
use Rattle.bearer.specs.Bearer.{flow_of}
use Rattle.bearer.specs.Hearing.{arrived, expired, ticked, with_discard}
use Rattle.bearer.specs.Lives.{stopped, restarted}
use Rattle.bearer.specs.Submitting.{refusal as flow_refusal, submitted}
use Rattle.bearer.specs.Taking.{after as taken}
use Rattle.bearer.specs.declared.flow.Flow.{Flow}
use Rattle.bearer.specs.declared.flow.Flow.TheVariants.{Tm, Um, Am}
use Rattle.bearer_pdcp.specs.Ends.{begun as begun_pdcp}
use Rattle.bearer_types.specs.Configs.{IsChannelOf}
use Rattle.bearer_types.specs.Sides.{heard_by}
use Rattle.bearer_types.specs.declared.BearerConfig.{BearerConfig}
use Rattle.eps_sec.specs.declared.Keys.{Keys}
use Rattle.harq.specs.declared.sender.Visit.{Visit}
use Rattle.harq.specs.declared.sender.Visit.TheVariants.{New, Resend, Silent}
use Rattle.l2_bits.specs.declared.fault.SubmitRefusal.{SubmitRefusal}
use Rattle.l2_node.specs.Building.{visit, visited}
use Rattle.l2_node.specs.End.{End}
use Rattle.l2_node.specs.Submitting.{refusal}
use Rattle.l2_types.specs.declared.channel.Kind.{Kind}
use Rattle.l2_types.specs.declared.channel.Kind.TheVariants as kinds
use Rattle.l2_types.specs.declared.side.Side.{Side}
use Rattle.l2_types.specs.declared.side.Side.TheVariants.{Nb, Ue}
use Rattle.pdcp_rx.specs.State.{fresh as fresh_receiving}
use Rattle.pdcp_tx.specs.State.{start as start_pdcp}
use Rattle.law_bearer.specs.AnyBearer.Calls.{Call as BearerCall, Submit as Submits, Take as Takes, Arrive as Arrives}
use Rattle.law_bearer.specs.AnyBearer.Calls.{Expire as Expires, Tick as Ticks, SetDiscard as SetsDiscard, after_all}
use Rattle.law_bearer.specs.AnyBearer.Calls.{after as after_bearer, Restart, goes as bearer_goes}
use Rattle.law_bearer.specs.AmBearer.Calls.{IsOfData, IsOfSignalling, IsIdle}
use Rattle.law_bearer.proofs.AmBearer.Calls.{calls_are_deeds, signalling_calls_are_deeds}
use Rattle.law_bearer.proofs.AmBearer.Lives.{restarts_are_deeds}
use Rattle.law_node.specs.Bearers.{adds, AddNone}
use Rattle.law_node.specs.Calls.{Turn, Call, SetVisits, SetReports, Add, Submit, SetDiscard, Tick, TickBuckets, Visits}
use Rattle.law_node.specs.Calls.{Grants, Granted, Assigned, Pass, Receive, Expire, Move, IsGiven, AreGiven, run_end}
use Rattle.law_node.specs.Calls.{after as after_call}
use Rattle.law_node.specs.Holding.{flow}
use Rattle.law_drain.specs.Signalling.{KeepsNone, IsAccepted}
use Rattle.law_drain.proofs.Empty.{signalling_begins_empty, signalling_goes_on_empty}
use Rattle.law_drain.proofs.Signalling.{signalling_keeps_none}
use Rattle.law_deliver.specs.AmChannel.Delivery.{HasBegun}
use Rattle.law_deliver.specs.AmFlow.Channels.{calls_of, takes_of, submits_of, only, GoesOnInLife}
use Rattle.law_deliver.proofs.AmChannel.Delivery.{stands_so}
use Rattle.law_deliver.proofs.AmFlow.Channels.{call_by}
use Rattle.law_deliver.proofs.AmFlow.Stations.{come_sound}
use Rattle.law_deliver.proofs.AmFlow.Ups.{Stands, stands_more, the_end}
use Rattle.law_run.specs.AnyCalls.Ends.{LivesOn}
use Rattle.promises.specs.Configs.{config_of}
use Rattle.promises.specs.Pdus.{carried}
use Rattle.law_run.specs.Order.{state_behind, IsRight, KeepsOrder}
use Rattle.law_node.proofs.CountsFit.{CountsFit, first_counts}
use Rattle.law_node.proofs.Pdcp.{OfPdcp}
use Rattle.law_run.proofs.Counts.{goes}
use Rattle.law_run.proofs.BearerWalk.{adds_one, comes, behind_all}
use Rattle.law_run.proofs.DrainCounts.{IsAcceptedBy, call_counts, restart_counts}
use Rattle.law_run.proofs.Failed.{call_kind}
use Rattle.law_run.proofs.Past.{link_behind}
use Rattle.law_run.proofs.Texts.{adds_are, adds_none}
use Rattle.pdcp_pdu.specs.declared.PdcpKind.TheVariants.{Srb as SrbKind, Am as AmKind}

-- ---- a bearer of a kind, between two of its calls

-- of signalling, with nothing kept
pub record HoldsNone (b : State) : Type 0 where
  pub kind : IsOfSignalling b
  pub idle : IsIdle b
  pub keeps : KeepsNone b.pdcp.tx

pub record HoldsData (b : State) : Type 0 where
  pub bits : ℕ
  pub kind : IsOfData bits b
  pub idle : IsIdle b

abbrev pub IsOfKind : Kind → Flow → Type 0
IsOfKind kinds.Tm (Tm b) = Unit {0}
IsOfKind kinds.Tm (Um b) = ⊥
IsOfKind kinds.Tm (Am b) = ⊥
IsOfKind kinds.Srb (Tm b) = ⊥
IsOfKind kinds.Srb (Um b) = ⊥
IsOfKind kinds.Srb (Am b) = HoldsNone b
IsOfKind kinds.Um (Tm b) = ⊥
IsOfKind kinds.Um (Um b) = Unit {0}
IsOfKind kinds.Um (Am b) = ⊥
IsOfKind kinds.Am (Tm b) = ⊥
IsOfKind kinds.Am (Um b) = ⊥
IsOfKind kinds.Am (Am b) = HoldsData b

first_of_kind : (kind : Kind) (c : BearerConfig) (keys : Keys) (side : Side) → c.first < 2 ^ 32
    → IsOfKind kind (flow_of kind c keys side)
unfolding fresh_am begun_pdcp start_pdcp fresh_receiving
first_of_kind kinds.Tm c keys side few = tt
first_of_kind kinds.Srb c keys side few = first
  where
    first : HoldsNone (fresh_am c SrbKind keys side)
    first = record {
      kind = record { kind = refl; sending = refl; receiving = refl };
      idle = record { heard = refl; raised = refl; confirmed = refl };
      keeps = signalling_begins_empty c keys side few;
    }
first_of_kind kinds.Um c keys side few = tt
first_of_kind kinds.Am c keys side few = first
  where
    first : HoldsData (fresh_am c (AmKind c.pdcp_bits) keys side)
    first = record {
      bits = c.pdcp_bits;
      kind = record { kind = refl; sending = refl; receiving = refl };
      idle = record { heard = refl; raised = refl; confirmed = refl };
    }

-- ---- its calls

am_accepted : (b : State) (c : BearerCall) → IsAcceptedBy (Am b) c → IsAccepted b c
unfolding flow_refusal
am_accepted b (Submits sdu) g = g
am_accepted b (Takes share held) g = tt
am_accepted b (Arrives pdu) g = tt
am_accepted b (Expires clock) g = tt
am_accepted b Ticks g = tt
am_accepted b (SetsDiscard ttis) g = tt

call_of_kind : (kind : Kind) (f : Flow) (c : BearerCall) → IsAcceptedBy f c → IsOfKind kind f
    → IsOfKind kind (after_bearer f c)
unfolding submitted taken arrived expired ticked with_discard
call_of_kind kinds.Tm (Tm b) (Submits sdu) g h = tt
call_of_kind kinds.Tm (Tm b) (Takes share held) g h = tt
call_of_kind kinds.Tm (Tm b) (Arrives pdu) g h = tt
call_of_kind kinds.Tm (Tm b) (Expires clock) g h = tt
call_of_kind kinds.Tm (Tm b) Ticks g h = tt
call_of_kind kinds.Tm (Tm b) (SetsDiscard ttis) g h = tt
call_of_kind kinds.Tm (Um b) c g h = absurd h
call_of_kind kinds.Tm (Am b) c g h = absurd h
call_of_kind kinds.Srb (Tm b) c g h = absurd h
call_of_kind kinds.Srb (Um b) c g h = absurd h
call_of_kind kinds.Srb (Am b) c g h =
    let x = signalling_calls_are_deeds b c h.kind h.idle in
    subst (IsOfKind kinds.Srb) (sym x.left)
    (record {
      kind = x.stays;
      idle = x.idle;
      keeps = signalling_keeps_none b c h.kind (am_accepted b c g) h.keeps;
    })
call_of_kind kinds.Um (Tm b) c g h = absurd h
call_of_kind kinds.Um (Um b) (Submits sdu) g h = tt
call_of_kind kinds.Um (Um b) (Takes share held) g h = tt
call_of_kind kinds.Um (Um b) (Arrives pdu) g h = tt
call_of_kind kinds.Um (Um b) (Expires clock) g h = tt
call_of_kind kinds.Um (Um b) Ticks g h = tt
call_of_kind kinds.Um (Um b) (SetsDiscard ttis) g h = tt
call_of_kind kinds.Um (Am b) c g h = absurd h
call_of_kind kinds.Am (Tm b) c g h = absurd h
call_of_kind kinds.Am (Um b) c g h = absurd h
call_of_kind kinds.Am (Am b) c g h =
    let x = calls_are_deeds h.bits b c h.kind h.idle in
    subst (IsOfKind kinds.Am) (sym x.left) (record { bits = h.bits; kind = x.stays; idle = x.idle })

restart_of_kind : (kind : Kind) (f : Flow) (keys : Keys) → IsOfKind kind f
    → IsOfKind kind (bearer_goes f (Restart keys))
unfolding restarted stopped
restart_of_kind kinds.Tm (Tm b) keys h = tt
restart_of_kind kinds.Tm (Um b) keys h = absurd h
restart_of_kind kinds.Tm (Am b) keys h = absurd h
restart_of_kind kinds.Srb (Tm b) keys h = absurd h
restart_of_kind kinds.Srb (Um b) keys h = absurd h
restart_of_kind kinds.Srb (Am b) keys h =
    let x = signalling_goes_on_empty b keys h.kind h.idle h.keeps in
    subst (IsOfKind kinds.Srb) (sym x.left) (record { kind = x.kind; idle = x.idle; keeps = x.keeps })
restart_of_kind kinds.Um (Tm b) keys h = absurd h
restart_of_kind kinds.Um (Um b) keys h = tt
restart_of_kind kinds.Um (Am b) keys h = absurd h
restart_of_kind kinds.Am (Tm b) keys h = absurd h
restart_of_kind kinds.Am (Um b) keys h = absurd h
restart_of_kind kinds.Am (Am b) keys h =
    let x = restarts_are_deeds h.bits b keys h.kind h.idle in
    subst (IsOfKind kinds.Am) (sym x.left) (record { bits = h.bits; kind = x.stays; idle = x.idle })

-- ---- a call of its end

-- none that submits
abbrev IsOtherCall : BearerCall → Type 0
IsOtherCall (Submits sdu) = ⊥
IsOtherCall (Takes share held) = Unit {0}
IsOtherCall (Arrives pdu) = Unit {0}
IsOtherCall (Expires clock) = Unit {0}
IsOtherCall Ticks = Unit {0}
IsOtherCall (SetsDiscard ttis) = Unit {0}

other_accepted : (f : Flow) (c : BearerCall) → IsOtherCall c → IsAcceptedBy f c
other_accepted f (Submits sdu) h = absurd h
other_accepted f (Takes share held) h = tt
other_accepted f (Arrives pdu) h = tt
other_accepted f (Expires clock) h = tt
other_accepted f Ticks h = tt
other_accepted f (SetsDiscard ttis) h = tt

only_other : (b : Bool) (c : BearerCall) → IsOtherCall c → AllByRecursion IsOtherCall (only b c)
only_other true c h = (h, tt)
only_other false c h = tt

arrive_other : (ps : List (List ℕ)) → AllByRecursion IsOtherCall (map (λ pdu. Arrives pdu) ps)
arrive_other [] = tt
arrive_other (p ∷ ps) = (tt, arrive_other ps)

takes_other : (v : Visit) (t : Turn) (e : End) (l : ℕ) → AllByRecursion IsOtherCall (takes_of v t e l)
takes_other New t e l = only_other _ _ tt
takes_other (Resend rv) t e l = tt
takes_other Silent t e l = tt

refusal_is : (lcid : ℕ) (octets : List ℕ) (e : End) → refusal lcid octets e ≡ flow_refusal (flow lcid e) octets
unfolding refusal
refusal_is lcid octets e = refl

same_lcid : (a b : ℕ) → (a == b) ≡ true → a ≡ b
same_lcid a b e = grind (arith, nat_tests)

-- what each accepted call of a bearer keeps, and a further life, each call of its end keeps
module _ (P : Flow → Type 0) (call : (f : Flow) (c : BearerCall) → IsAcceptedBy f c → P f → P (after_bearer f c)) where
  others_keep : (cs : List BearerCall) (f : Flow) → AllByRecursion IsOtherCall cs → P f → P (after_all f cs)
  others_keep [] f o h = h
  others_keep (c ∷ cs) f o h = others_keep cs (after_bearer f c) o.1 (call f c (other_accepted f c o.0) h)

  submits_keep : (r : Option SubmitRefusal) (here : Bool) (f : Flow) (octets : List ℕ)
      → (r ≡ None → here ≡ true → IsAcceptedBy f (Submits octets)) → P f → P (after_all f (submits_of r here octets))
  submits_keep None true f octets g h = call f (Submits octets) (g refl refl) h
  submits_keep None false f octets g h = h
  submits_keep (Some why) here f octets g h = h

  calls_keep : (l : ℕ) (e : End) (c : Call) → P (flow l e) → P (after_all (flow l e) (calls_of l e c))
  calls_keep l e (SetVisits maximum) h = h
  calls_keep l e (SetReports reports) h = h
  calls_keep l e (Add config keys) h = h
  calls_keep l e (Submit lcid octets) h =
      submits_keep (refusal lcid octets e) (lcid == l) (flow l e) octets
      (λ none here. ap (λ (k : ℕ). flow_refusal (flow k e) octets) (sym (same_lcid lcid l here))
      ∙ sym (refusal_is lcid octets e) ∙ none) h
  calls_keep l e (SetDiscard lcid ttis) h =
      others_keep (only (lcid == l) (SetsDiscard ttis)) (flow l e) (only_other (lcid == l) (SetsDiscard ttis) tt) h
  calls_keep l e Tick h = others_keep (Ticks ∷ []) (flow l e) (tt, tt) h
  calls_keep l e TickBuckets h = h
  calls_keep l e (Visits t) h =
      others_keep (takes_of (visit t.tti t.order e) t (visited t.tti t.order e) l) (flow l e)
      (takes_other (visit t.tti t.order e) t (visited t.tti t.order e) l) h
  calls_keep l e (Grants tti) h = h
  calls_keep l e (Granted tti good) h = h
  calls_keep l e (Assigned tti ndi good) h = h
  calls_keep l e (Pass tti) h = h
  calls_keep l e (Receive block) h =
      others_keep (map (λ pdu. Arrives pdu) (carried l (heard_by e.side) block)) (flow l e)
      (arrive_other (carried l (heard_by e.side) block)) h
  calls_keep l e (Expire lcid clock) h =
      others_keep (only (lcid == l) (Expires clock)) (flow l e) (only_other (lcid == l) (Expires clock) tt) h
  calls_keep l e (Move keys) h = h

  module _ (restart : (f : Flow) (keys : Keys) → P f → P (bearer_goes f (Restart keys))) where
    pub lives_keep : (side : Side) (l : ℕ) (e : End) (c : Call) → GoesOnInLife l c ⊎ ((keys : Keys) × (c ≡ Move keys))
        → Stands side l e → P (flow l e) → P (flow l (after_call e c))
    lives_keep side l e c (inl life) s h =
        subst P (sym (call_by l e c (come_sound side e s.come) life s.there)) (calls_keep l e c h)
    lives_keep side l e c (inr (keys, is)) s h =
        subst (λ (d : Call). P (flow l (after_call e d))) (sym is)
        (subst P (sym (the_end side l e keys s).bearer_is) (restart (flow l e) keys h))

-- ---- at an end, through calls

pub record Tracks (kind : Kind) (side : Side) (l : ℕ) (e : End) : Type 0 where
  pub stands : Stands side l e
  pub of_kind : IsOfKind kind (flow l e)
  pub counts : OfPdcp CountsFit (flow l e)

module _ (kind : Kind) (side : Side) (l : ℕ) where
  stays_standing : (e : End) (c : Call) → Stands side l e → IsGiven c → adds l c ≡ false
      → Stands side l (after_call e c)
  stays_standing e c s g other =
      stands_more side l e c s g (λ is. let no : true ≡ false = sym is ∙ other in absurd cc)

  pub calls_track : (cs : List Call) (e : End) → AreGiven cs → AddNone l cs → Tracks kind side l e
      → Tracks kind side l (run_end cs e)
  calls_track [] e g none t = t
  calls_track (c ∷ cs) e g none t =
      calls_track cs (after_call e c) g.1 none.1 (record {
        stands = stays_standing e c t.stands g.0 none.0;
        of_kind = lives_keep (IsOfKind kind) (call_of_kind kind) (restart_of_kind kind) side l e c
            (call_kind l c none.0) t.stands t.of_kind;
        counts = lives_keep (OfPdcp CountsFit) call_counts restart_counts side l e c (call_kind l c none.0) t.stands
            t.counts;
      })

  pub lives_track : (lives : List Call) (told : List Record) (e f : End) → LivesOn lives side told e f
      → AddNone l lives → Tracks kind side l e → Tracks kind side l f
  lives_track lives told e f k none t =
      subst (Tracks kind side l) (sym k.by.end_is)
      (calls_track k.by.calls e k.by.given
      (adds_are l k.by.calls (subst (AddNone l) (sym k.lives_are) none)) t)

-- ---- at both ends, behind groups

pub record TracksBoth (kind : Kind) (l : ℕ) (k : Link) : Type 0 where
  pub goes_with : IsChannelOf kind l
  pub nb : Tracks kind Nb l k.nb
  pub ue : Tracks kind Ue l k.ue

line_tracks : (kind : Kind) (l : ℕ) (past : List Group) (g : Group) → IsRight past g → KeepsOrder past
    → adds_one l g.line ≡ false → TracksBoth kind l (link_behind past) → TracksBoth kind l (link_behind (g ∷ past))
line_tracks kind l past g right order other t =
    let keys = (state_behind past).rules.keys in
    let none = adds_none l g.line keys other in
    let nb = goes Nb past g right order in
    let ue = goes Ue past g right order in
    record {
      goes_with = t.goes_with;
      nb = lives_track kind Nb l _ g.events _ _ nb none t.nb;
      ue = lives_track kind Ue l _ g.events _ _ ue none t.ue;
    }

pub begun_tracks : (side : Side) (l : ℕ) (c : BearerConfig) (keys : Keys) (e : End) → c.first < 2 ^ 32
    → HasBegun side l c keys e → Tracks c.kind side l e
begun_tracks side l c keys e few h = record {
  stands = stands_so side l c keys e h;
  of_kind = subst (IsOfKind c.kind) (sym h.bearer_is) (first_of_kind c.kind c keys side few);
  counts = subst (OfPdcp CountsFit) (sym h.bearer_is) (first_counts c.kind c keys side few);
}

begins_track : (past : List Group) (g : Group) (c : BearerConfig) (options : _)
    → IsRight past (record g { line = lines.Bearer c options }) → KeepsOrder past
    → TracksBoth c.kind c.channel.lcid (link_behind (record g { line = lines.Bearer c options } ∷ past))
begins_track past g c options right order =
    let x = comes past g c options right order in
    record {
      goes_with = right.in_range.lcid;
      nb = begun_tracks Nb c.channel.lcid c x.keys _ x.first (x.begun Nb);
      ue = begun_tracks Ue c.channel.lcid c x.keys _ x.first (x.begun Ue);
    }

pub links_track : (l : ℕ) (past : List Group) (c : BearerConfig) → KeepsOrder past → config_of l past ≡ Some c
    → TracksBoth c.kind l (link_behind past)
links_track l past c order e =
    behind_all (λ k d groups. TracksBoth d.kind k (link_behind groups)) (λ d. Unit {0})
    (λ groups g d options right keeps any. begins_track groups g d options right keeps)
    (λ k d groups g right keeps other before t. line_tracks d.kind k groups g right keeps other t) l past c order tt e

-- ---- so signalling keeps nothing

pub holds_none : (kind : Kind) (f : Flow) (b : State) → f ≡ Am b → IsOfKind kind f → IsOfSignalling b
    → KeepsNone b.pdcp.tx
holds_none kind f b is h s = by kind (subst (IsOfKind kind) is h)
  where
    by : (k : Kind) → IsOfKind k (Am b) → KeepsNone b.pdcp.tx
    by kinds.Tm x = absurd x
    by kinds.Srb x = x.keeps
    by kinds.Um x = absurd x
    by kinds.Am x = let no : AmKind x.bits ≡ SrbKind = sym x.kind.sending ∙ s.sending in absurd cc
