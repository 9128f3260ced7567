-- What the measure of a drain is at most, by what both ends of a channel have left.
use Rattle.std.proofs.Common.{◌≡◌, ◌≤◌, ℕ, ◌+◌, ◌*◌, Bool, true, false, if◌then◌else◌, List, [], ◌∷◌, ◌++◌, Option}
use Rattle.std.proofs.Common.{Some, None, refl, ap, sym, subst, ◌∙◌, arith}
use Rattle.std.proofs.Math.Nat.{mul-le-mul_left}
use Rattle.std.specs.List.{AllByRecursion}
use Rattle.std.specs.Prelude.{is_some}
use Rattle.l2_types.specs.declared.config.AmTxConfig.{AmTxConfig}
use Rattle.pdcp_tx.specs.Pdus.{extra}
use Rattle.pdcp_tx.specs.State.{State as Sending, left as pdcp_left, taking}
use Rattle.pdcp_tx.specs.declared.sender.Next.{Next}
use Rattle.rlc_am_tx.specs.Machine.{State as Sender, start}
use Rattle.rlc_am_tx.specs.Need.{left as rlc_left}
use Rattle.rlc_am_rx.specs.State.{State as Receiver}
use Rattle.bearer.specs.Acknowledged.State.{State, has_more}
use Rattle.bearer.specs.declared.flow.Flow.{Flow}
use Rattle.bearer.specs.declared.flow.Flow.TheVariants.{Tm, Um, Am}
use Rattle.law_rlc.specs.AmSender.Run.{Call as SenderCall, World, run_am_sender, begun}
use Rattle.law_rlc.specs.AmSender.Namings.{Marks, unmarked, marks_after}
use Rattle.law_rlc.specs.AmSender.Octets.{HasOctets}
use Rattle.law_bearer.specs.AnyBearer.Calls.{Call, Submit, Take, Arrive, Expire, Tick, SetDiscard, after_all}
use Rattle.law_bearer.specs.AmBearer.Calls.{IsIdle}
use Rattle.law_bearer.specs.AmBearer.Deeds.{Deed, Feeds, Sends, Confirms, Receives, HandsUp, Asks, Sets, does, does_all}
use Rattle.law_bearer.specs.AmBearer.Deeds.{offered_next, confirms_first, hands_first}
use Rattle.law_bearer.specs.AmBearer.Sending.{sends_in}
use Rattle.law_bearer.proofs.AmBearer.Sending.{in_then}
use Rattle.law_drain.specs.Bearer.{bearer_dues, bearer_quiet, marks_behind, IsOfDrain}
use Rattle.law_drain.specs.Dues.{dues}
use Rattle.law_drain.specs.Ends.{HasLived, IsOfAny, Stands}
use Rattle.law_drain.specs.Left.{BearerDuesAreLeft, StandsIn, end_measure, FitsReport}
use Rattle.law_drain.specs.Left.{EndMeasuresAreLeft, ChannelsAreEnds, OffersFor, OffersAlong}
use Rattle.law_drain.specs.Left.{EndFallsTo, EndsNeverRise}
use Rattle.law_drain.specs.Others.{waits_in}
use Rattle.law_drain.specs.Pending.{pending}
use Rattle.law_drain.specs.Quiet.{is_waiting}
use Rattle.law_drain.specs.Round.{deeds_along, behind}
use Rattle.law_drain.specs.Unsent.{unsent, report_octets}
use Rattle.law_drain.proofs.BearerCalls.{behind-along}
use Rattle.law_drain.proofs.BearerDues.{Falls, sent_along, brought_along, marks_along, deeds-fall, marks-then}
use Rattle.law_drain.proofs.BearerDues.{call-config, spread, grows}
use Rattle.law_drain.proofs.Budget.{dues_are_left}
use Rattle.law_drain.proofs.Calm.{calm-none}
use Rattle.law_drain.proofs.Channels.{all-fall, tm-stays, um-stays}
use Rattle.law_drain.proofs.Come.{HasCome, first-all, last-all, come-then}
use Rattle.law_drain.proofs.Fitting.{extra-most}
use Rattle.law_drain.proofs.Ends.{all-go, lives-on, lives-marks, lives-octets}
use Rattle.law_drain.proofs.Hearing.{behind-is}
use Rattle.law_drain.proofs.Octets.{GiveOctets, others-give, share-gives, along-give}
use Rattle.law_drain.proofs.Rounds.{along-calm}
use Rattle.law_drain.proofs.Texts.{texts-left}

-- ---- the marks of a life are those of its calls

begins : (b : State) → b.tx ≡ start b.tx_config → HasCome b.tx unmarked
begins b e = record {
  config = b.tx_config;
  calls = [];
  some = tt;
  is = ap (λ (s : Sender). record { state = s; past = unmarked }) (sym e);
}

module _ (b : State) (h : HasLived b) where
  abbrev lived : World Marks
  lived = run_am_sender marks_after (sends_in h.deeds h.origin) (begun h.origin.tx_config unmarked)

  lived-is : lived.state ≡ b.tx
  lived-is =
      ap (λ (s : Sender).
      (run_am_sender marks_after (sends_in h.deeds h.origin) (record { state = s; past = unmarked })).state)
      (sym h.begins)
      ∙ ap (λ (w : World Marks). w.state)
      (deeds-fall h.deeds h.origin unmarked (begins h.origin h.begins) h.octets).run
      ∙ ap (λ (d : State). d.tx) h.is

  sender-left : dues b.tx (marks_behind h.origin h.deeds) ≤ (b.tx.config.max_retx + 1) * rlc_left b.tx
  sender-left =
      subst (λ (s : Sender). dues s (marks_behind h.origin h.deeds) ≤ (s.config.max_retx + 1) * rlc_left s) lived-is
      (dues_are_left h.origin.tx_config (sends_in h.deeds h.origin))

-- ---- one acknowledged bearer

all-left : (most rlc report sdus owed given : ℕ) (failed : Bool) → owed ≤ (most + 1) * rlc → given ≤ report + sdus
    → owed + (if failed then 0 else (most + 1) * given) ≤ (most + 1) * (rlc + (report + sdus))
all-left most rlc report sdus owed given true a b = omega (arith, a, spread most rlc (report + sdus))
all-left most rlc report sdus owed given false a b =
    omega (arith, a, grows most given (report + sdus) b, spread most rlc (report + sdus))

pub bearer_dues_are_left : BearerDuesAreLeft
bearer_dues_are_left b h octets =
    let s = b.pdcp.tx in
    let few : unsent s ≤ report_octets s.owed + (extra s.kind + 1) * pdcp_left s = omega (arith, texts-left s octets) in
    all-left b.tx.config.max_retx (rlc_left b.tx) (report_octets s.owed) ((extra s.kind + 1) * pdcp_left s)
    (dues b.tx (marks_behind h.origin h.deeds)) (unsent s) b.tx.failed (sender-left b h) few

-- ---- the configuration stays

record SameConfig (b d : State) : Type 0 where
  sender : d.tx.config ≡ b.tx.config
  given : d.tx_config ≡ b.tx_config

offered-config : (o : Option Next) (tx : Sender) → (offered_next o tx).config ≡ tx.config
offered-config None tx = refl
offered-config (Some pdu) tx = refl

confirmed-config : (places : List ℕ) (b : State) → SameConfig b (confirms_first places b)
confirmed-config [] b = record { sender = refl; given = refl }
confirmed-config (place ∷ places) b = record { sender = refl; given = refl }

handed-config : (sdus : List (List ℕ)) (b : State) → SameConfig b (hands_first sdus b)
handed-config [] b = record { sender = refl; given = refl }
handed-config (sdu ∷ sdus) b = record { sender = refl; given = refl }

deed-config : (b : State) (deed : Deed) → SameConfig b (does b deed)
deed-config b Feeds = record { sender = offered-config (taking b.pdcp.tx) b.tx; given = refl }
deed-config b (Sends c) = record { sender = call-config b.tx c; given = refl }
deed-config b Confirms = confirmed-config b.tx.accounts.news b
deed-config b (Receives c) = record { sender = refl; given = refl }
deed-config b HandsUp = handed-config b.rx.out.ready b
deed-config b (Asks c) = record { sender = refl; given = refl }
deed-config b (Sets ttis) = record { sender = refl; given = refl }

deeds-config : (deeds : List Deed) (b : State) → SameConfig b (does_all deeds b)
deeds-config [] b = record { sender = refl; given = refl }
deeds-config (deed ∷ deeds) b =
    let one = deed-config b deed in
    let rest = deeds-config deeds (does b deed) in
    record { sender = rest.sender ∙ one.sender; given = rest.given ∙ one.given }

pub config-is : (b : State) → HasLived b → b.tx.config ≡ b.tx_config
config-is b h =
    let same = subst (SameConfig h.origin) h.is (deeds-config h.deeds h.origin) in
    same.sender ∙ ap (λ (s : Sender). s.config) h.begins ∙ sym same.given

-- ---- one end

pub times-most : (m most x : ℕ) → m ≤ most → m * x ≤ most * x
times-most m most x le =
    let all = mul-le-mul_left x le in
    let near : m * x ≡ x * m = grind arith in
    let far : most * x ≡ x * most = grind arith in
    omega (arith, all, near, far)

-- what PDCP has still to give
unsent-most : (s : Sending) → FitsReport s → unsent s ≤ 2051 + 6 * pdcp_left s
unsent-most s h =
    omega (
      arith,
      texts-left s h.octets,
      h.report,
      times-most (extra s.kind + 1) 6 (pdcp_left s) (omega (arith, extra-most s.kind)),
    )

acknowledged-most : (m rlc report sdus all left : ℕ) → m ≤ 32 → report ≤ 2051 → sdus ≤ 6 * left
    → all ≤ (m + 1) * (rlc + (report + sdus)) → 3 * all ≤ 594 * (left + rlc) + 203049
acknowledged-most m rlc report sdus all left few short given most =
    omega (
      arith,
      short,
      given,
      most,
      times-most (m + 1) 33 (rlc + (report + sdus)) (omega (arith, few)),
    )

pub end_measures_are_left : EndMeasuresAreLeft
end_measures_are_left (Tm b) h fits = omega arith
end_measures_are_left (Um b) h fits = omega (arith, unsent-most b.pdcp.tx fits.0, fits.1)
end_measures_are_left (Am b) h fits =
    let s = b.pdcp.tx in
    let few : b.tx.config.max_retx ≤ 32 =
    subst (λ (c : AmTxConfig). c.max_retx ≤ 32) (sym (config-is b h.lived)) fits.1 in
    acknowledged-most b.tx.config.max_retx (rlc_left b.tx) (report_octets s.owed) ((extra s.kind + 1) * pdcp_left s)
    (bearer_dues b (marks_behind h.lived.origin h.lived.deeds)) (pdcp_left s) few fits.0.report
    (times-most (extra s.kind + 1) 6 (pdcp_left s) (omega (arith, extra-most s.kind)))
    (bearer_dues_are_left b h.lived fits.0.octets)

-- ---- both ends

pending-most : (r : Receiver) → pending r ≤ 2
pending-most r = by (is_some r.mark) r.due
  where
    by : (a b : Bool) → (if a then 2 else if b then 1 else 0) ≤ 2
    by true b = omega arith
    by false true = omega arith
    by false false = omega arith

quiet-most : (b : State) → bearer_quiet b ≤ 1
quiet-most b = by (is_waiting b.tx (has_more b.pdcp))
  where
    by : (w : Bool) → (if w then 1 else 0) ≤ 1
    by true = omega arith
    by false = omega arith

waits-most : (f : Flow) (h : StandsIn f) → waits_in f ≤ end_measure f h
waits-most (Tm b) h = omega arith
waits-most (Um b) h = omega arith
waits-most (Am b) h = omega arith

pub channels_are_ends : ChannelsAreEnds
channels_are_ends (Tm b) ue n u = omega (arith, waits-most ue u)
channels_are_ends (Um b) ue n u = omega (arith, waits-most ue u)
channels_are_ends (Am b) (Tm d) n u = omega arith
channels_are_ends (Am b) (Um d) n u = omega arith
channels_are_ends (Am b) (Am d) n u =
    omega (arith, pending-most d.rx, quiet-most b, pending-most b.rx, quiet-most d)

-- ---- over calls of a drain

call-gives : (c : Call) (b : State) → OffersFor c (Am b) → GiveOctets (c ∷ []) b
call-gives (Submit sdu) b h = others-give (Submit sdu ∷ []) b (tt, tt)
call-gives (Take share held) b h = share-gives true share held b h
call-gives (Arrive pdu) b h = others-give (Arrive pdu ∷ []) b (tt, tt)
call-gives (Expire clock) b h = others-give (Expire clock ∷ []) b (tt, tt)
call-gives Tick b h = others-give (Tick ∷ []) b (tt, tt)
call-gives (SetDiscard ttis) b h = others-give (SetDiscard ttis ∷ []) b (tt, tt)

calls-give : (cs : List Call) (b : State) → IsOfAny b → IsIdle b → OffersAlong cs (Am b) → GiveOctets cs b
calls-give [] b kind idle h = tt
calls-give (c ∷ cs) b kind idle h =
    let g = all-go (c ∷ []) b kind idle in
    along-give (c ∷ []) cs b (call-gives c b h.0)
    (calls-give cs (behind (c ∷ []) b) g.kind g.idle (subst (OffersAlong cs) g.left h.1))

-- of a bearer that begins a life, behind any deeds
module _ (b : State) (deeds : List Deed) (cs : List Call) (e : b.tx ≡ start b.tx_config)
    (some : AllByRecursion HasOctets (sends_in (deeds ++ deeds_along cs (does_all deeds b)) b))
    (drains : AllByRecursion IsOfDrain cs) where
  abbrev now : State
  now = does_all deeds b

  parts : AllByRecursion HasOctets (sends_in deeds b ++ sends_in (deeds_along cs now) now)
  parts = subst (λ (xs : List SenderCall). AllByRecursion HasOctets xs) (in_then deeds (deeds_along cs now) b) some

  before : AllByRecursion HasOctets (sends_in deeds b)
  before = first-all (sends_in deeds b) (sends_in (deeds_along cs now) now) parts

  later : AllByRecursion HasOctets (sends_in (deeds_along cs now) now)
  later = last-all (sends_in deeds b) (sends_in (deeds_along cs now) now) parts

  abbrev m : Marks
  m = marks_along deeds b unmarked

  come : HasCome now.tx m
  come = come-then (sends_in deeds b) b.tx now.tx unmarked m (begins b e) before
      (deeds-fall deeds b unmarked (begins b e) before).run

  falls : Falls now (does_all (deeds_along cs now) now) m (marks_along (deeds_along cs now) now m)
      (sends_in (deeds_along cs now) now) (sent_along (deeds_along cs now) now)
      (brought_along (deeds_along cs now) now)
  falls = deeds-fall (deeds_along cs now) now m come later

  none : brought_along (deeds_along cs now) now ≡ 0
  none = calm-none (deeds_along cs now) now (along-calm cs now drains)

  was : marks_behind b deeds ≡ m
  was = behind-along b deeds e before (begins b e)

  is : marks_behind b (deeds ++ deeds_along cs now) ≡ marks_along (deeds_along cs now) now m
  is = behind-along b (deeds ++ deeds_along cs now) e some (begins b e)
      ∙ marks-then deeds (deeds_along cs now) b unmarked

  left-is : bearer_dues (behind cs now) (marks_behind b (deeds ++ deeds_along cs now))
      ≡ bearer_dues (does_all (deeds_along cs now) now) (marks_along (deeds_along cs now) now m)
  left-is =
      ap (λ (d : State). bearer_dues d (marks_behind b (deeds ++ deeds_along cs now))) (behind-is cs now)
      ∙ ap (bearer_dues (does_all (deeds_along cs now) now)) is

  along-falls : bearer_dues (behind cs now) (marks_behind b (deeds ++ deeds_along cs now))
      ≤ bearer_dues now (marks_behind b deeds)
  along-falls = omega (arith, left-is, ap (bearer_dues now) was, falls.falls, none)

lived-falls : (cs : List Call) (b : State) (h : HasLived b) (g : GiveOctets cs b) → AllByRecursion IsOfDrain cs
    → bearer_dues (behind cs b) (marks_behind (lives-on cs b h g).origin (lives-on cs b h g).deeds)
    ≤ bearer_dues b (marks_behind h.origin h.deeds)
lived-falls cs b h g drains =
    subst (λ (m : Marks). bearer_dues (behind cs b) m ≤ bearer_dues b (marks_behind h.origin h.deeds))
    (sym (lives-marks cs b h g))
    (subst
    (λ (d : State). bearer_dues (behind cs d) (marks_behind h.origin (h.deeds ++ deeds_along cs d))
    ≤ bearer_dues d (marks_behind h.origin h.deeds)) h.is
    (along-falls h.origin h.deeds cs h.begins
    (subst (λ (d : State). AllByRecursion HasOctets (sends_in (h.deeds ++ deeds_along cs d) h.origin)) (sym h.is)
    (lives-octets cs b h g)) drains))

acknowledged-falls : (cs : List Call) (b : State) → AllByRecursion IsOfDrain cs → OffersAlong cs (Am b)
    → (h : Stands b) → EndFallsTo (Am b) (after_all (Am b) cs) h
acknowledged-falls cs b drains offers h =
    let goes = all-go cs b h.kind h.idle in
    let g = calls-give cs b h.kind h.idle offers in
    subst (λ (f : Flow). EndFallsTo (Am b) f h) (sym goes.left)
    (record {
      left = record { kind = goes.kind; idle = goes.idle; lived = lives-on cs b h.lived g };
      falls = let less = lived-falls cs b h.lived g drains in omega (arith, less);
    })

pub ends_never_rise : EndsNeverRise
ends_never_rise cs (Tm b) drains offers h =
    let x = tm-stays cs b in
    subst (λ (f : Flow). EndFallsTo (Tm b) f h) (sym x.is)
    (record {
      left = tt;
      falls = subst (λ (f : Flow). waits_in f ≤ waits_in (Tm b)) x.is (all-fall cs (Tm b) drains);
    })
ends_never_rise cs (Um b) drains offers h =
    let x = um-stays cs b in
    subst (λ (f : Flow). EndFallsTo (Um b) f h) (sym x.is)
    (record {
      left = tt;
      falls = subst (λ (f : Flow). waits_in f ≤ waits_in (Um b)) x.is (all-fall cs (Um b) drains);
    })
ends_never_rise cs (Am b) drains offers h = acknowledged-falls cs b drains offers h
