-- From one handover to the next an acknowledged sender numbers its new PDUs from 0 on, one by one, and sends again
-- what lies in its window.
use Rattle.std.proofs.Common.{◌≡◌, ◌⊎◌, inl, inr, ℕ, Bool, true, false, ◌||◌, if◌then◌else◌, Some}
use Rattle.std.proofs.Common.{List, [], ◌∷◌, ◌++◌, refl, ap, sym, subst, ◌∙◌, arith}
use Rattle.std.specs.List.{list_any}
use Rattle.air_link.specs.Link.{end_of}
use Rattle.air_record.specs.declared.record.Record.TheVariants as records
use Rattle.air_text.specs.Groups.{Group, history}
use Rattle.bearer.specs.declared.flow.Flow.{Flow}
use Rattle.bearer.specs.declared.flow.Flow.TheVariants.{Am}
use Rattle.bearer.specs.Bearer.{flow_of}
use Rattle.bearer.specs.Lives.{stopped, restarted}
use Rattle.bearer.specs.Acknowledged.Lives.{stopped as am_stopped, restarted as am_restarted}
use Rattle.bearer.specs.Acknowledged.State.{State, fresh as fresh_am}
use Rattle.bearer_types.specs.declared.config.BearerConfig.{BearerConfig}
use Rattle.bearer_types.specs.declared.event.Event.{Event}
use Rattle.eps_sec.specs.declared.Keys.{Keys}
use Rattle.l2_node.specs.End.{End}
use Rattle.l2_types.specs.declared.channel.Kind.{Kind}
use Rattle.l2_types.specs.declared.channel.Kind.TheVariants as kinds
use Rattle.l2_types.specs.declared.side.Side.{Side}
use Rattle.law_bearer.specs.AnyBearer.Calls.{Restart, after_all, goes as flow_goes}
use Rattle.law_deliver.specs.AmFlow.Channels.{calls_of, GoesOnInLife}
use Rattle.law_deliver.specs.AmFlow.Ups.{TellsOver, calls_over, tells_over}
use Rattle.law_deliver.proofs.AmFlow.Channels.{call_by}
use Rattle.law_deliver.proofs.AmFlow.Events.{told_then}
use Rattle.law_deliver.proofs.AmFlow.Stations.{come_sound}
use Rattle.law_deliver.proofs.AmFlow.Ups.{Stands, stands_more, over_tells, the_end}
use Rattle.law_node.specs.Bearers.{adds, moves, AddNone}
use Rattle.law_node.specs.Calls.{Call, Move, IsGiven, AreGiven, after, run_end}
use Rattle.law_node.specs.Holding.{flow}
use Rattle.law_node.specs.Telling.{told_of, told_over}
use Rattle.pdcp_pdu.specs.declared.PdcpKind.TheVariants as pdcp
use Rattle.prioritise.proofs.ChannelLemmas.{both_false}
use Rattle.promises.specs.Air.{ttis}
use Rattle.promises.specs.Blocks.{kinds as kinds_told}
use Rattle.promises.specs.Configs.{config_of}
use Rattle.promises.specs.Events.{told_on}
use Rattle.promises.specs.Names.{SentPdu, sent_pdus}
use Rattle.promises.specs.Parts.{is_handover}
use Rattle.promises.specs.Records.{events_of}
use Rattle.promises.specs.Silent.{is_of_sender}
use Rattle.promises.specs.SentNumbers.{AreNumbers, sent_in, sent_since, NumbersAreSent}
use Rattle.promises.specs.Telling.{channels}
use Rattle.rlc_am_tx_window.specs.Window.{next}
use Rattle.law_run.specs.Order.{state_behind, IsRight, KeepsOrder}
use Rattle.law_run.proofs.AnyCalls.Going.{told_both}
use Rattle.law_run.proofs.Counts.{goes}
use Rattle.law_run.proofs.EmptyLists.{parts_empty, empty_if}
use Rattle.law_run.proofs.Failed.{call_kind, handed_over}
use Rattle.law_run.proofs.Numbered.{Fits, AreNumbered, number_over, still_numbered, still_over}
use Rattle.law_run.proofs.Numbered.{on_channel, next_over, numbers_then, next_then}
use Rattle.law_run.proofs.Numbering.{calls_number}
use Rattle.law_run.proofs.Past.{link_behind}
use Rattle.law_run.proofs.Quiet.{tell_sender, any_both}
use Rattle.law_run.proofs.Silent.{line_still, on_still, in_life, moves_none, since}
use Rattle.law_run.proofs.Standing.{lines_tell}
use Rattle.law_run.proofs.BearerWalk.{adds_one, Comes, comes, behind_all}
use Rattle.law_run.proofs.Texts.{moves_are, none_added}

-- ---- a bearer that begins, and tells nothing of its sender

record IsFirst (f : Flow) : Type 0 where
  bearer : State
  flow_is : f ≡ Am bearer
  fits : Fits bearer.tx.window
  from_zero : next bearer.tx.window ≡ 0

restarts_first : (b : State) (keys : Keys) → IsFirst (flow_goes (Am b) (Restart keys))
unfolding stopped restarted am_restarted
restarts_first b keys =
    record { bearer = am_restarted (am_stopped b) keys; flow_is = refl; fits = omega arith; from_zero = refl }

begins_first : (c : BearerConfig) (keys : Keys) (side : Side) → IsFirst (flow_of kinds.Am c keys side)
unfolding fresh_am
begins_first c keys side =
    record { bearer = fresh_am c (pdcp.Am c.pdcp_bits) keys side; flow_is = refl; fits = omega arith; from_zero = refl }

none_split : (test : Event → Bool) (xs ys : List Event) → list_any test (xs ++ ys) ≡ false
    → (list_any test xs ≡ false) × (list_any test ys ≡ false)
none_split test xs ys e = both_false (list_any test xs) (list_any test ys) (sym (any_both test xs ys) ∙ e)

module _ (side : Side) (l : ℕ) where
  one_stands : (e : End) (c : Call) → Stands side l e → IsGiven c → adds l c ≡ false → Stands side l (after e c)
  one_stands e c s g other = stands_more side l e c s g (λ is. let no : true ≡ false = sym is ∙ other in absurd cc)

  -- calls of one life
  life_first : (e : End) (cs : List Call) → Stands side l e → AreGiven cs → AddNone l cs → moves cs ≡ []
      → tell_sender (told_on l (told_over cs e)) ≡ false → IsFirst (flow l e) → IsFirst (flow l (run_end cs e))
  life_first e cs s g none still quiet f =
      let t : TellsOver l e cs = over_tells side l e cs s g (in_life l cs none still) in
      let own = calls_over l cs e in
      let n = calls_number l f.bearer own in
      let told = tells_over l (Am f.bearer) own in
      let told_is : told_on l (told_over cs e) ≡ told =
      t.told_is ∙ ap (λ (x : Flow). tells_over l x own) f.flow_is in
      let w = n.kept f.fits in
      record {
        bearer = n.bearer;
        flow_is = t.bearer_is ∙ ap (λ (x : Flow). after_all x own) f.flow_is ∙ n.flow_is;
        fits = w.fits;
        from_zero =
            w.next_is ∙ still_over (next f.bearer.tx.window) told (ap tell_sender (sym told_is) ∙ quiet) ∙ f.from_zero;
      }

  -- with which one begins
  moves_first : (e : End) (c : Call) (cs : List Call) (b : State)
      → GoesOnInLife l c ⊎ ((keys : Keys) × (c ≡ Move keys)) → Stands side l e → AreGiven (c ∷ cs)
      → AddNone l (c ∷ cs) → (k : Keys) → moves (c ∷ cs) ≡ k ∷ []
      → flow l e ≡ Am b → tell_sender (told_on l (told_over cs (after e c))) ≡ false
      → ((d : State) → moves cs ≡ k ∷ [] → flow l (after e c) ≡ Am d → IsFirst (flow l (run_end cs (after e c))))
      → IsFirst (flow l (run_end cs (after e c)))
  moves_first e c cs b (inl life) s g none k one is quiet rest =
      let n = calls_number l b (calls_of l e c) in
      rest n.bearer (ap (λ (xs : List Keys). xs ++ moves cs) (sym life.moves_none) ∙ one)
      (call_by l e c (come_sound side e s.come) life s.there
      ∙ ap (λ (x : Flow). after_all x (calls_of l e c)) is ∙ n.flow_is)
  moves_first e c cs b (inr (keys, move)) s g none k one is quiet rest =
      let flow_is : flow l (after e c) ≡ flow_goes (Am b) (Restart keys) =
      ap (λ (d : Call). flow l (after e d)) move ∙ (the_end side l e keys s).bearer_is
      ∙ ap (λ (x : Flow). flow_goes x (Restart keys)) is in
      let all : keys ∷ moves cs ≡ k ∷ [] = sym (ap (λ (d : Call). moves (d ∷ cs)) move) ∙ one in
      let still : moves cs ≡ [] = cc in
      life_first (after e c) cs (one_stands e c s g.0 none.0) g.1 none.1 still quiet
      (subst IsFirst (sym flow_is) (restarts_first b keys))

  calls_first : (e : End) (cs : List Call) (k : Keys) (b : State) → Stands side l e → AreGiven cs → AddNone l cs
      → moves cs ≡ k ∷ [] → flow l e ≡ Am b → tell_sender (told_on l (told_over cs e)) ≡ false
      → IsFirst (flow l (run_end cs e))
  calls_first e [] k b s g none one is quiet = absurd cc
  calls_first e (c ∷ cs) k b s g none one is quiet =
      let d = after e c in
      let parts = none_split is_of_sender (told_on l (told_of e c)) (told_on l (told_over cs d))
      (sym (ap tell_sender (told_then l (told_of e c) (told_over cs d))) ∙ quiet) in
      moves_first e c cs b (call_kind l c none.0) s g none k one is parts.1
      (λ b' more is'. calls_first d cs k b' (one_stands e c s g.0 none.0) g.1 none.1 more is' parts.1)

-- ---- behind groups

record Sending (side : Side) (l : ℕ) (past : List Group) : Type 0 where
  bearer : State
  flow_is : flow l (end_of side (link_behind past)) ≡ Am bearer
  fits : Fits bearer.tx.window
  numbers : AreNumbers l 0 (sent_since side past)
  next_is : next bearer.tx.window ≡ next_over l 0 (sent_since side past)

-- of a bearer that begins, where nothing has been told of its sender since then
begins_sending : (side : Side) (l : ℕ) (past : List Group) → IsFirst (flow l (end_of side (link_behind past)))
    → AreNumbers l 0 (sent_since side past) → next_over l 0 (sent_since side past) ≡ 0 → Sending side l past
begins_sending side l past f numbers from_zero = record {
  bearer = f.bearer;
  flow_is = f.flow_is;
  fits = f.fits;
  numbers = numbers;
  next_is = f.from_zero ∙ sym from_zero;
}

module _ (side : Side) (l : ℕ) (past : List Group) (g : Group) (right : IsRight past g) (order : KeepsOrder past)
    (stands : Stands side l (end_of side (link_behind past))) (s : Sending side l past)
    (other : adds_one l g.line ≡ false) where
  abbrev here : End
  here = end_of side (link_behind past)

  abbrev there : End
  there = end_of side (link_behind (g ∷ past))

  abbrev told : List Event
  told = told_on l (events_of side g.events)

  abbrev calls : List Call
  calls = (goes side past g right order).by.calls

  abbrev sent : List SentPdu
  sent = sent_in side g.events

  none : AddNone l calls
  none = none_added side l past g right order other

  told_is : told ≡ told_on l (told_over calls here)
  told_is = ap (told_on l) (goes side past g right order).by.told_is

  life_sends : is_handover g.line ≡ false → Sending side l (g ∷ past)
  life_sends is =
      let k = goes side past g right order in
      let still : moves calls ≡ [] =
      moves_are calls ∙ ap moves k.lives_are ∙ moves_none g.line (state_behind past).rules.keys is in
      let t : TellsOver l here calls =
      over_tells side l here calls stands k.by.given (in_life l calls none still) in
      let own = calls_over l calls here in
      let n = calls_number l s.bearer own in
      let w = n.kept s.fits in
      let tells : told ≡ tells_over l (Am s.bearer) own =
      told_is ∙ t.told_is ∙ ap (λ (x : Flow). tells_over l x own) s.flow_is in
      let at = next s.bearer.tx.window in
      let on = on_channel l at (events_of side g.events)
      (subst (λ (es : List Event). AreNumbered at es) (sym tells) w.numbered) in
      let before = sent_since side past in
      let all : sent_since side (g ∷ past) ≡ before ++ sent =
      ap (λ (b : Bool). (if b then [] else before) ++ sent) is in
      record {
        bearer = n.bearer;
        flow_is = ap (flow l) k.by.end_is ∙ t.bearer_is ∙ ap (λ (x : Flow). after_all x own) s.flow_is ∙ n.flow_is;
        fits = w.fits;
        numbers =
            subst (λ (xs : List SentPdu). AreNumbers l 0 xs) (sym all)
            (numbers_then l 0 before sent s.numbers
            (subst (λ (m : ℕ). AreNumbers l m sent) s.next_is on.numbers));
        next_is =
            w.next_is ∙ ap (number_over at) (sym tells) ∙ sym on.next_is
            ∙ ap (λ (m : ℕ). next_over l m sent) s.next_is ∙ sym (next_then l 0 before sent)
            ∙ ap (next_over l 0) (sym all);
      }

  handover_sends : is_handover g.line ≡ true → Sending side l (g ∷ past)
  handover_sends is =
      let k = goes side past g right order in
      let m = handed_over g.line (state_behind past).rules.keys is in
      let quiet : tell_sender told ≡ false =
      on_still l (events_of side g.events)
      (line_still side l (ttis past) (kinds_told past) (λ s. channels past) g.line g.events
      (ap (λ (b : Bool). b || adds_one l g.line) is) (lines_tell (g ∷ past) (right, order)).0) in
      let f = calls_first side l here calls m.keys s.bearer stands k.by.given none
      (moves_are calls ∙ ap moves k.lives_are ∙ m.moves_are) s.flow_is (ap tell_sender (sym told_is) ∙ quiet) in
      let on = on_channel l 0 (events_of side g.events) (still_numbered 0 told quiet) in
      let all : sent_since side (g ∷ past) ≡ sent =
      ap (λ (b : Bool). (if b then [] else sent_since side past) ++ sent) is in
      begins_sending side l (g ∷ past) (subst (λ (e : End). IsFirst (flow l e)) (sym k.by.end_is) f)
      (subst (λ (xs : List SentPdu). AreNumbers l 0 xs) (sym all) on.numbers)
      (ap (next_over l 0) all ∙ on.next_is ∙ still_over 0 told quiet)

  group_sends : (b : Bool) → is_handover g.line ≡ b → Sending side l (g ∷ past)
  group_sends true is = handover_sends is
  group_sends false is = life_sends is

-- ---- as a bearer comes

none_since : (side : Side) (past : List Group) → events_of side (history past) ≡ [] → sent_since side past ≡ []
none_since side [] e = refl
none_since side (g ∷ past) e =
    let parts = parts_empty (events_of side (history past)) (events_of side g.events)
    (sym (told_both side (history past) (records.Line g.number g.line ∷ g.events) (events_of side (history past))
    (events_of side g.events) refl refl) ∙ e) in
    empty_if (is_handover g.line) (sent_since side past) (sent_in side g.events) (none_since side past parts.0)
    (ap sent_pdus parts.1)

comes_first : (kind : Kind) (c : BearerConfig) (keys : Keys) (side : Side) → kind ≡ kinds.Am
    → IsFirst (flow_of kind c keys side)
comes_first kind c keys side e =
    subst (λ (k : Kind). IsFirst (flow_of k c keys side)) (sym e) (begins_first c keys side)

begins : (side : Side) (past : List Group) (c : BearerConfig) → Comes c past → c.kind ≡ kinds.Am
    → Sending side c.channel.lcid past
begins side past c h kind =
    let l = c.channel.lcid in
    let none = sym (none_since side past (h.early.none_told side)) in
    begins_sending side l past (subst IsFirst (sym (h.begun side).bearer_is) (comes_first c.kind c h.keys side kind))
    (subst (λ (xs : List SentPdu). AreNumbers l 0 xs) none tt) (ap (next_over l 0) (sym none))

-- ---- behind all groups

sending : (side : Side) (l : ℕ) (past : List Group) (c : BearerConfig) → KeepsOrder past → c.kind ≡ kinds.Am
    → config_of l past ≡ Some c → Sending side l past
sending side =
    behind_all (λ n d groups. Sending side n groups) (λ d. d.kind ≡ kinds.Am)
    (λ groups g d options right keeps kind. begins side _ d (comes groups g d options right keeps) kind)
    (λ n d groups g right keeps other before h.
    group_sends side n groups g right keeps (since side n groups d keeps before).sender.stands h other
    (is_handover g.line) refl)

pub numbers_are_sent : (past : List Group) → KeepsOrder past → NumbersAreSent past
numbers_are_sent [] order = tt
numbers_are_sent (g ∷ past) (right, order) = (
  λ side lcid config is kind. (sending side lcid (g ∷ past) config (right, order) kind is).numbers,
  numbers_are_sent past order,
)
