-- A channel's bearers live through any steps of a link.
use Rattle.std.proofs.Common.{◌≡◌, ℕ, Bool, true, false, ◌||◌, List, [], ◌∷◌, ◌++◌, append_assoc, append-nil, refl, ap}
use Rattle.std.proofs.Common.{sym, subst, ◌∙◌}
use Rattle.air_link.specs.Lines.{bears}
use Rattle.air_link.specs.Link.{Link, end_of}
use Rattle.air_record.specs.declared.record.Record.{Record}
use Rattle.bearer.specs.Bearer.{flow_of}
use Rattle.bearer.specs.declared.flow.Flow.TheVariants.{Am}
use Rattle.bearer.specs.Acknowledged.State.{State}
use Rattle.bearer_types.specs.Configs.{IsConfig}
use Rattle.bearer_types.specs.declared.config.BearerConfig.{BearerConfig}
use Rattle.eps_sec.specs.declared.Keys.{Keys}
use Rattle.l2_node.specs.End.{End}
use Rattle.l2_types.specs.declared.Kind.{Kind}
use Rattle.l2_types.specs.declared.Kind.TheVariants as kinds
use Rattle.l2_types.specs.declared.side.Side.{Side}
use Rattle.l2_types.specs.declared.side.Side.TheVariants.{Nb, Ue}
use Rattle.law_node.specs.Calls.{Add, after as after_call}
use Rattle.law_node.proofs.Living.{added}
use Rattle.law_run.specs.AnyCalls.Runs.{Step, Run, step, emptied, goes as run_goes, goes_on as run_on}
use Rattle.law_deliver.specs.AmFlow.Air.{Air, outset, HasCome}
use Rattle.law_words.specs.Arrivals.{AccountEntry}
use Rattle.law_deliver.specs.AmChannel.Lives.{lives, end_at}
use Rattle.law_run.specs.TwoEnds.Arrival.{told_by_step}
use Rattle.law_run.specs.TwoEnds.Coming.{none_yet}
use Rattle.law_run.specs.TwoEnds.Going.{handed_in, sets, IsStepSince}
use Rattle.promises.specs.Flows.{looped_at}
use Rattle.law_run.specs.TwoEnds.Lived.{HasBearer, Lived, IsAcknowledged, BearersCome, LivesOn, AreStepsSince}
use Rattle.law_run.specs.TwoEnds.Lived.{submitted_in, said_in, sets_in, RunsOn}
use Rattle.law_run.specs.TwoEnds.Lives.{IsAtRest}
use Rattle.law_run.specs.TwoEnds.On.{IsOn}
use Rattle.law_run.proofs.TwoEnds.Advancing.{steps_go}
use Rattle.law_run.proofs.TwoEnds.Coming.{bearers_begin, ends_come_by, come_as, steps_come}
use Rattle.law_run.proofs.TwoEnds.Keeping.{Keeps, steps_keep}

-- ---- what else is of a link

both_have : (l : ℕ) (k : Link) → HasBearer l k.nb → HasBearer l k.ue → (side : Side) → HasBearer l (end_of side k)
both_have l k nb ue Nb = nb
both_have l k nb ue Ue = ue

pub ends_live : (l : ℕ) (nb ue : End) (told : List Record) (submitted : Side → ℕ → List (List ℕ)) (said : ℕ → Side
    → List AccountEntry) (set : Bool) (k m : Link)
    → m.nb ≡ k.nb → m.ue ≡ k.ue → m.ttis ≡ k.ttis → Lived l nb ue told submitted said set k
    → Lived l nb ue told submitted said set m
ends_live l nb ue told submitted said set k m nb_is ue_is ttis_is h = record {
  by = ends_come_by l told submitted said set k m (outset nb ue) nb_is ue_is ttis_is h.by;
  bearers = both_have l m (subst (HasBearer l) (sym nb_is) (h.bearers Nb))
      (subst (HasBearer l) (sym ue_is) (h.bearers Ue));
}

-- ---- the bearers come

abbrev Acknowledged : Kind → BearerConfig → Keys → Side → Type 0
Acknowledged kind config keys side = (b : State) × (flow_of kind config keys side ≡ Am b)

pub acknowledged : (kind : Kind) (config : BearerConfig) (keys : Keys) (side : Side) → IsAcknowledged kind
    → Acknowledged kind config keys side
acknowledged kinds.Tm config keys side h = absurd h
acknowledged kinds.Srb config keys side h = (_, refl)
acknowledged kinds.Um config keys side h = absurd h
acknowledged kinds.Am config keys side h = (_, refl)

pub added_bearer : (e : End) (config : BearerConfig) (keys : Keys) → IsAcknowledged config.kind
    → HasBearer config.channel.lcid (after_call e (Add config keys))
added_bearer e config keys kind =
    let b = acknowledged config.kind config keys e.side kind in
    let x = added e config keys in
    record { there = x.there; bearer = b.0; bearer_is = x.flow_is ∙ b.1 }

pub bearers_live : (config : BearerConfig) (keys : Keys) (k : Link) → IsConfig config → IsAcknowledged config.kind
    → IsAtRest k → BearersCome config keys k
unfolding bears
bearers_live config keys k g kind h =
    let m = bears config keys k in
    let begin = bearers_begin config keys k g h in
    record {
      out_is = begin.out_is;
      lived = record {
        by = begin.by;
        bearers = both_have config.channel.lcid m (added_bearer k.nb config keys kind)
            (added_bearer k.ue config keys kind);
      };
    }

-- ---- a step since

on_end : (side : Side) (k : Link) (a : Air) → IsOn k a → end_at side a ≡ end_of side k
on_end Nb k a h = h.nb_is
on_end Ue k a h = h.ue_is

on_come : (side : Side) (k : Link) (a : Air) → IsOn k a → HasCome side (end_at side a)
on_come Nb k a h = h.nb.come
on_come Ue k a h = h.ue.come

pub keeps_at : (l : ℕ) (side : Side) (k : Link) (a : Air) → IsOn k a → HasBearer l (end_of side k)
    → Keeps l side (end_at side a)
keeps_at l side k a h b = record { come = on_come side k a h; bearer = subst (HasBearer l) (sym (on_end side k a h)) b }

pub steps_live : (l : ℕ) (nb ue : End) (told : List Record) (submitted : Side → ℕ → List (List ℕ)) (said : ℕ → Side
    → List AccountEntry) (set : Bool) (s : Step) (k : Link) → IsStepSince l s → Lived l nb ue told submitted said set k
    → LivesOn l nb ue told submitted said set s k
steps_live l nb ue told submitted said set s k g h =
    let a = outset nb ue in
    let b = lives h.by.steps a in
    let m = step s k in
    let x = steps_come l told submitted said set s k a g h.by in
    let y = (steps_go l s k b g h.by.on).by in
    record {
      more = x.more;
      out_is = x.out_is;
      alone = x.alone;
      lived = record {
        by = x.by;
        bearers = λ side. subst (HasBearer l) (on_end side m (lives y.steps b) y.on)
            (steps_keep l side b y.steps y.living (keeps_at l side k b h.by.on (h.bearers side))).bearer;
      };
    }

-- ---- any steps since

-- the same records and SDUs in another form
lived_as : (l : ℕ) (nb ue : End) (f g : List Record) (x y : Side → ℕ → List (List ℕ)) (s t : ℕ → Side
    → List AccountEntry) (b c : Bool) (k : Link) → f ≡ g → ((side : Side) (n : ℕ) → x side n ≡ y side n)
    → ((bits : ℕ) (from : Side) → s bits from ≡ t bits from) → b ≡ c → Lived l nb ue f x s b k → Lived l nb ue g y t c k
lived_as l nb ue f g x y s t b c k told same alike on h =
    record { by = come_as l (outset nb ue) f g x y s t b c k told same alike on h.by; bearers = h.bearers }

any_none : (x : Bool) → x ≡ (x || false)
any_none true = refl
any_none false = refl

any_more : (x y z : Bool) → ((x || y) || z) ≡ (x || (y || z))
any_more true y z = refl
any_more false y z = refl

pub runs_live : (l : ℕ) (nb ue : End) (told : List Record) (submitted : Side → ℕ → List (List ℕ)) (said : ℕ → Side
    → List AccountEntry) (set : Bool) (ss : List Step) (r : Run)
    → AreStepsSince l ss → r.link.out ≡ [] → Lived l nb ue told submitted said set r.link
    → RunsOn l nb ue told submitted said set ss r
runs_live l nb ue told submitted said set [] r g none_yet h = record {
  more = [];
  journal_is = sym (append-nil r.journal);
  lived = lived_as l nb ue told (told ++ []) submitted (λ side n. submitted side n ++ []) said
      (λ bits from. said bits from ++ []) set (set || false) r.link (sym (append-nil told))
      (λ side n. sym (append-nil (submitted side n)))
      (λ bits from. sym (append-nil (said bits from))) (any_none set) h;
}
runs_live l nb ue told submitted said set (s ∷ ss) r g none_yet h =
    let k = r.link in
    let m = step s k in
    let x = steps_live l nb ue told submitted said set s k g.0 h in
    let all : m.out ≡ x.more = x.out_is ∙ ap (λ (o : List Record). o ++ x.more) none_yet in
    let before : Side → ℕ → List (List ℕ) =
    λ side n. submitted side n ++ (handed_in side n s k ++ looped_at side n x.more) in
    let heard : ℕ → Side → List AccountEntry = λ bits from. said bits from ++ told_by_step bits l from s x.more in
    let sets_yet = set || sets l s in
    let q = run_goes s r in
    let rest = runs_live l nb ue (told ++ x.more) before heard sets_yet ss q g.1 refl
    (ends_live l nb ue (told ++ x.more) before heard sets_yet m (emptied m) refl refl refl x.lived) in
    record {
      more = x.more ++ rest.more;
      journal_is = rest.journal_is ∙ ap (λ (o : List Record). (r.journal ++ o) ++ rest.more) all
          ∙ append_assoc r.journal x.more rest.more;
      lived = lived_as l nb ue ((told ++ x.more) ++ rest.more) (told ++ (x.more ++ rest.more))
          (λ side n. before side n ++ submitted_in side n ss q)
          (λ side n. submitted side n ++ submitted_in side n (s ∷ ss) r)
          (λ bits from. heard bits from ++ said_in bits l from ss q)
          (λ bits from. said bits from ++ said_in bits l from (s ∷ ss) r)
          (sets_yet || sets_in l ss) (set || sets_in l (s ∷ ss)) (run_on ss q).link (append_assoc told x.more rest.more)
          (λ side n.
          append_assoc (submitted side n) (handed_in side n s k ++ looped_at side n x.more) (submitted_in side n ss q)
          ∙ ap (λ (o : List Record). submitted side n
          ++ ((handed_in side n s k ++ looped_at side n o) ++ submitted_in side n ss q)) (sym all))
          (λ bits from.
          append_assoc (said bits from) (told_by_step bits l from s x.more) (said_in bits l from ss q)
          ∙ ap (λ (o : List Record). said bits from ++ (told_by_step bits l from s o ++ said_in bits l from ss q))
          (sym all))
          (any_more set (sets l s) (sets_in l ss)) rest.lived;
    }
