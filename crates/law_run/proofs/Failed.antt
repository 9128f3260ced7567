-- Behind the groups of a journal a sender has failed only where that is told since its life began.
use Rattle.std.proofs.Common.{◌≡◌, ◌⊎◌, inl, inr, ℕ, ◌==◌, Bool, true, false, cond, ◌||◌, if◌then◌else◌, Option, List}
use Rattle.std.proofs.Common.{[], ◌∷◌, ◌++◌, refl, ap, sym, subst, ◌∙◌}
use Rattle.std.proofs.lemmas.List.Concat.{flat_map-append}
use Rattle.air_link.specs.Link.{end_of}
use Rattle.air_record.specs.declared.line.Line.{Line}
use Rattle.air_record.specs.declared.line.Line.TheVariants as lines
use Rattle.air_run.specs.Playing.{keys_or_none}
use Rattle.air_record.specs.Cells.{next_keys}
use Rattle.air_text.specs.Groups.{Group}
use Rattle.bearer.specs.Bearer.{flow_of}
use Rattle.bearer.specs.Acknowledged.State.{fresh as fresh_am}
use Rattle.bearer_types.specs.declared.config.BearerConfig.{BearerConfig}
use Rattle.bearer_types.specs.declared.event.Event.{Event}
use Rattle.bearer_types.specs.declared.event.Event.TheVariants.{Fail}
use Rattle.law_deliver.specs.AmChannel.Delivery.{HasBegun}
use Rattle.law_deliver.specs.AmChannel.Drained.{has_failed}
use Rattle.law_deliver.proofs.AmChannel.Delivery.{stands_so}
use Rattle.eps_sec.specs.declared.Keys.{Keys}
use Rattle.law_deliver.specs.AmFlow.Channels.{calls_of, GoesOnInLife}
use Rattle.law_deliver.specs.AmFlow.Ups.{tells_over}
use Rattle.promises.specs.Events.{is_on, told_on, fails_in, fails_on}
use Rattle.law_deliver.proofs.AmFlow.Channels.{call_by}
use Rattle.law_deliver.proofs.AmFlow.Stations.{come_sound}
use Rattle.law_deliver.proofs.AmFlow.Ups.{Stands, stands_more, tells_of, the_end}
use Rattle.l2_node.specs.End.{End}
use Rattle.l2_types.specs.declared.channel.Kind.{Kind}
use Rattle.l2_types.specs.declared.channel.Kind.TheVariants as kinds
use Rattle.l2_types.specs.declared.side.Side.{Side}
use Rattle.promises.specs.Records.{events_of}
use Rattle.law_node.specs.Bearers.{adds, moves, AddNone}
use Rattle.law_node.specs.Calls.{Call, Move, IsGiven, AreGiven, after, run_end}
use Rattle.law_node.specs.Holding.{flow}
use Rattle.law_node.specs.Telling.{told_of, told_over}
use Rattle.promises.specs.Parts.{is_handover}
use Rattle.promises.specs.Drained.{failed}
use Rattle.promises.specs.Silent.{is_failure}
use Rattle.law_run.specs.Order.{state_behind, IsRight, KeepsOrder}
use Rattle.law_run.proofs.Counts.{goes}
use Rattle.law_run.proofs.EmptyLists.{parts_empty}
use Rattle.law_run.proofs.Failing.{calls_run, life_unfailed}
use Rattle.law_run.proofs.Past.{link_behind}
use Rattle.law_run.proofs.Quiet.{tell_failure}
use Rattle.law_run.proofs.Reaching.{lives_by}
use Rattle.law_run.proofs.BearerWalk.{adds_one}
use Rattle.law_run.proofs.Texts.{moves_are, none_added}

-- ---- what is told of a channel

fail_by : (here : Bool) (e : Event) (sn : ℕ) (rest : List ℕ) (told : List Event)
    → (if here then sn ∷ [] else []) ++ rest ≡ [] → (rest ≡ [] → tell_failure told ≡ false)
    → tell_failure (cond here (e ∷ told) told) ≡ false
fail_by true e sn rest told none more = absurd cc
fail_by false e sn rest told none more = more none

other_by : (here : Bool) (e : Event) (told : List Event) → is_failure e ≡ false → tell_failure told ≡ false
    → tell_failure (cond here (e ∷ told) told) ≡ false
other_by true e told own rest = ap (λ (b : Bool). b || tell_failure told) own ∙ rest
other_by false e told own rest = rest

own_fails : (l : ℕ) (told : List Event) → fails_on l told ≡ [] → tell_failure (told_on l told) ≡ false
own_fails l [] none = refl
own_fails l (Fail lcid sn ∷ told) none =
    fail_by (lcid == l) (Fail lcid sn) sn (fails_on l told) (told_on l told) none (own_fails l told)
own_fails l (e ∷ told) none = other_by (is_on l e) e (told_on l told) refl (own_fails l told none)

-- ---- an end through calls

abbrev Unfailed : ℕ → End → Type 0
Unfailed l e = has_failed (flow l e) ≡ false

pub call_kind : (l : ℕ) (c : Call) → adds l c ≡ false → GoesOnInLife l c ⊎ ((keys : Keys) × (c ≡ Move keys))
call_kind l (Move keys) other = inr (keys, refl)
call_kind l c other = inl (record { adds_none = other; moves_none = refl })

module _ (side : Side) (l : ℕ) where
  one_stands : (e : End) (c : Call) → Stands side l e → IsGiven c → adds l c ≡ false → Stands side l (after e c)
  one_stands e c s g other = stands_more side l e c s g (λ is. let no : true ≡ false = sym is ∙ other in absurd cc)

  calls_stand : (e : End) (cs : List Call) → Stands side l e → AreGiven cs → AddNone l cs → Stands side l (run_end cs e)
  calls_stand e [] s g none = s
  calls_stand e (c ∷ cs) s g none = calls_stand (after e c) cs (one_stands e c s g.0 none.0) g.1 none.1

  life_goes : (e : End) (c : Call) → Stands side l e → GoesOnInLife l c → fails_on l (told_of e c) ≡ [] → Unfailed l e
      → Unfailed l (after e c)
  life_goes e c s life quiet unfailed =
      let f = flow l e in
      let told = tells_over l f (calls_of l e c) in
      let none : tell_failure told ≡ false =
      ap tell_failure (sym (tells_of side l e c s life).told_is) ∙ own_fails l (told_of e c) quiet in
      ap has_failed (call_by l e c (come_sound side e s.come) life s.there)
      ∙ (calls_run l f (calls_of l e c)).after_is ∙ ap (λ (b : Bool). b || tell_failure told) unfailed ∙ none

  move_goes : (e : End) (c : Call) (keys : Keys) → c ≡ Move keys → Stands side l e → Unfailed l (after e c)
  move_goes e c keys is s = ap (λ (d : Call). has_failed (flow l (after e d))) is
      ∙ ap has_failed (the_end side l e keys s).bearer_is ∙ life_unfailed (flow l e) keys

  call_goes : (e : End) (c : Call) → Stands side l e → GoesOnInLife l c ⊎ ((keys : Keys) × (c ≡ Move keys))
      → fails_on l (told_of e c) ≡ [] → Unfailed l e → Unfailed l (after e c)
  call_goes e c s (inl life) quiet unfailed = life_goes e c s life quiet unfailed
  call_goes e c s (inr (keys, is)) quiet unfailed = move_goes e c keys is s

  calls_go : (e : End) (cs : List Call) → Stands side l e → AreGiven cs → AddNone l cs
      → fails_on l (told_over cs e) ≡ [] → Unfailed l e → Unfailed l (run_end cs e)
  calls_go e [] s g none quiet unfailed = unfailed
  calls_go e (c ∷ cs) s g none quiet unfailed =
      let parts = parts_empty (fails_on l (told_of e c)) (fails_on l (told_over cs (after e c)))
      (sym (flat_map-append (fails_in l) (told_of e c) (told_over cs (after e c))) ∙ quiet) in
      calls_go (after e c) cs (one_stands e c s g.0 none.0) g.1 none.1 parts.1
      (call_goes e c s (call_kind l c none.0) parts.0 unfailed)

  -- where one of them begins a life
  moved_by : (e : End) (c : Call) (cs : List Call) (k : Keys)
      → GoesOnInLife l c ⊎ ((keys : Keys) × (c ≡ Move keys)) → Stands side l e → AreGiven (c ∷ cs)
      → AddNone l (c ∷ cs) → moves (c ∷ cs) ≡ k ∷ []
      → fails_on l (told_over cs (after e c)) ≡ [] → (moves cs ≡ k ∷ [] → Unfailed l (run_end cs (after e c)))
      → Unfailed l (run_end cs (after e c))
  moved_by e c cs k (inl life) s g none one quiet rest =
      rest (ap (λ (xs : List Keys). xs ++ moves cs) (sym life.moves_none) ∙ one)
  moved_by e c cs k (inr (keys, is)) s g none one quiet rest =
      calls_go (after e c) cs (one_stands e c s g.0 none.0) g.1 none.1 quiet (move_goes e c keys is s)

  calls_move : (e : End) (cs : List Call) (k : Keys) → Stands side l e → AreGiven cs → AddNone l cs
      → moves cs ≡ k ∷ [] → fails_on l (told_over cs e) ≡ [] → Unfailed l (run_end cs e)
  calls_move e [] k s g none one quiet = absurd cc
  calls_move e (c ∷ cs) k s g none one quiet =
      let parts = parts_empty (fails_on l (told_of e c)) (fails_on l (told_over cs (after e c)))
      (sym (flat_map-append (fails_in l) (told_of e c) (told_over cs (after e c))) ∙ quiet) in
      moved_by e c cs k (call_kind l c none.0) s g none one parts.1
      (λ more. calls_move (after e c) cs k (one_stands e c s g.0 none.0) g.1 none.1 more parts.1)

-- ---- behind groups

pub record HasSender (side : Side) (l : ℕ) (past : List Group) : Type 0 where
  pub stands : Stands side l (end_of side (link_behind past))
  pub unfailed : failed side l past ≡ [] → Unfailed l (end_of side (link_behind past))

pub record OneMove (cs : List Call) : Type 0 where
  pub keys : Keys
  pub moves_are : moves cs ≡ keys ∷ []

pub handed_over : (line : Line) (keys : Option Keys) → is_handover line ≡ true → OneMove (lives_by line keys)
handed_over (lines.Handover user rrc integrity) keys is =
    record { keys = next_keys user rrc integrity (keys_or_none keys); moves_are = refl }
handed_over line keys is = absurd cc

module _ (side : Side) (l : ℕ) (past : List Group) (g : Group) (right : IsRight past g) (order : KeepsOrder past)
    (other : adds_one l g.line ≡ false) (h : HasSender side l past) where
  abbrev here : End
  here = end_of side (link_behind past)

  abbrev calls : List Call
  calls = (goes side past g right order).by.calls

  none : AddNone l calls
  none = none_added side l past g right order other

  told : fails_on l (events_of side g.events) ≡ fails_on l (told_over calls here)
  told = ap (fails_on l) (goes side past g right order).by.told_is

  group_by : (over : Bool) → is_handover g.line ≡ over
      → (if over then [] else failed side l past) ++ fails_on l (events_of side g.events) ≡ []
      → Unfailed l (run_end calls here)
  group_by true is quiet =
      let m = handed_over g.line (state_behind past).rules.keys is in
      calls_move side l here calls m.keys h.stands (goes side past g right order).by.given none
      (moves_are calls ∙ ap moves (goes side past g right order).lives_are ∙ m.moves_are) (sym told ∙ quiet)
  group_by false is quiet =
      let parts = parts_empty (failed side l past) (fails_on l (events_of side g.events)) quiet in
      calls_go side l here calls h.stands (goes side past g right order).by.given none (sym told ∙ parts.1)
      (h.unfailed parts.0)

  pub sender_goes : HasSender side l (g ∷ past)
  sender_goes =
      let there : run_end calls here ≡ end_of side (link_behind (g ∷ past)) =
      sym (goes side past g right order).by.end_is in
      record {
        stands =
            subst (Stands side l) there
            (calls_stand side l here calls h.stands (goes side past g right order).by.given none);
        unfailed = λ quiet. ap (λ (e : End). has_failed (flow l e)) (sym there)
            ∙ group_by (is_handover g.line) refl quiet;
      }

-- as a bearer comes
pub begins_unfailed : (kind : Kind) (c : BearerConfig) (keys : Keys) (side : Side)
    → has_failed (flow_of kind c keys side) ≡ false
unfolding fresh_am
begins_unfailed kinds.Tm c keys side = refl
begins_unfailed kinds.Srb c keys side = refl
begins_unfailed kinds.Um c keys side = refl
begins_unfailed kinds.Am c keys side = refl

pub sender_begins : (side : Side) (l : ℕ) (c : BearerConfig) (keys : Keys) (past : List Group)
    → HasBegun side l c keys (end_of side (link_behind past)) → HasSender side l past
sender_begins side l c keys past h = record {
  stands = stands_so side l c keys (end_of side (link_behind past)) h;
  unfailed = λ quiet. ap has_failed h.bearer_is ∙ begins_unfailed c.kind c keys side;
}
