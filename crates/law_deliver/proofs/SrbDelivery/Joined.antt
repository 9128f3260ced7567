-- How both ends of a direction belong together in a life, and how it goes on by what either end does.
use Rattle.std.proofs.Common.{◌≡◌, ◌≤◌, ℕ, ◌+◌, ◌^◌, List, [], ◌∷◌, ◌++◌, length, append-nil, append_assoc}
use Rattle.std.proofs.Common.{length-append, refl, ap, sym, subst, ◌∙◌, arith}
use Rattle.l2_types.specs.declared.config.AmTxConfig.{AmTxConfig}
use Rattle.l2_types.specs.declared.AmRxConfig.{AmRxConfig}
use Rattle.pdcp_pdu.specs.declared.PdcpKind.TheVariants.{Srb}
use Rattle.pdcp_sec.specs.Protection.{Protection}
use Rattle.pdcp_tx.specs.Pdus.{pdu}
use Rattle.pdcp_tx.specs.State.{State as Sending}
use Rattle.law_pdcp.specs.OneEnd.Lives.{queue}
use Rattle.law_rlc.specs.AmPair.Flow.{Flow as Rlc, Step as RlcStep, goes as rlc_goes, am_rlc_outset}
use Rattle.law_rlc.specs.AmPair.Given.{AreGiven as AreGivenSteps}
use Rattle.law_rlc.specs.AmPair.Sdus.{offered}
use Rattle.law_words.specs.Lists.{AreFirstSdus}
use Rattle.law_words.specs.Passing.{Passing, Told, nothing_told, with_passings}
use Rattle.law_rlc.specs.AmArrival.Arrival.{passed}
use Rattle.law_rlc.proofs.AmArrival.Telling.{told_then}
use Rattle.law_rlc.proofs.AmPair.Laws.{sound, hands-up-the-front}
use Rattle.law_rlc.proofs.AmPair.Sound.{IsSound}
use Rattle.law_deliver.specs.AmFlow.Flows.{IsFlow, HasFlow}
use Rattle.law_deliver.specs.AmFlow.Pair.{BearerEnd}
use Rattle.law_deliver.proofs.AmFlow.Flows.{stands_as, is_flow}
use Rattle.law_deliver.proofs.AmFlow.Standing.{Stands, given_more, goes_more}
use Rattle.law_pdcp.proofs.SrbPair.Laws.{Hears}
use Rattle.law_pdcp.proofs.OneEnd.Submitting.{AreNonempty}
use Rattle.law_pdcp.proofs.SrbPair.Sending.{Sends}
use Rattle.law_deliver.proofs.AmDelivery.Accounts.{passed_more}
use Rattle.law_deliver.proofs.SrbDelivery.Going.{total, Goes}
use Rattle.law_deliver.proofs.SrbDelivery.Taking.{pdus_from, pdus_both}

-- ---- what holds

-- of a direction of a life: its first COUNT, the protection of what is sent, how RLC is set at both ends, and what the
-- data PDUs have told so far
pub record Way : Type 0 where
  pub first : ℕ
  pub protection : Protection
  pub sending : AmTxConfig
  pub receiving : AmRxConfig
  pub told : Told

abbrev pub with_told : List Passing → Way → Way
with_told ps w = record w { told = with_passings ps w.told }

abbrev pub flow_by : Way → List RlcStep → Rlc
flow_by w steps = rlc_goes steps (am_rlc_outset w.sending w.receiving)

-- from an end to the other: RLC is a flow, to which the PDUs of the SDUs taken were offered; those that went up, and
-- `later` taken ones
pub record Joined (w : Way) (from to : BearerEnd) (submitted ups : List (List ℕ)) : Type 0 where
  pub steps : List RlcStep
  pub given : AreGivenSteps (am_rlc_outset w.sending w.receiving) steps
  pub is : IsFlow from to (flow_by w steps)
  pub later : List (List ℕ)
  pub sends : Sends w.first w.protection (ups ++ later) from.bearer.pdcp.tx
  pub offered_is : offered (flow_by w steps) ≡ pdus_from w.protection w.first (ups ++ later)
  pub total_is : total (flow_by w steps) ≡ pdus_from w.protection w.first ups
  pub hears : Hears w.first w.protection (length ups) to.bearer.pdcp.rx
  pub told_is : w.told ≡ with_passings (passed steps (am_rlc_outset w.sending w.receiving)) nothing_told
  pub submitted_is : submitted ≡ (ups ++ later) ++ queue from.bearer.pdcp.tx

abbrev pub has_flow : (w : Way) (from to : BearerEnd) (submitted ups : List (List ℕ)) → Joined w from to submitted ups
    → HasFlow w.sending w.receiving from to
has_flow w from to submitted ups j = record { steps = j.steps; given = j.given; is = j.is }

pub stands_so : (w : Way) (from to : BearerEnd) (submitted ups : List (List ℕ)) (j : Joined w from to submitted ups)
    → Stands from.bearer.tx to.bearer.rx from.copies to.reports from.busy (flow_by w j.steps)
stands_so w from to submitted ups j = stands_as from to (flow_by w j.steps) j.is

pub sound_so : (w : Way) (from to : BearerEnd) (submitted ups : List (List ℕ)) (j : Joined w from to submitted ups)
    → IsSound (flow_by w j.steps)
sound_so w from to submitted ups j = sound w.sending w.receiving j.steps j.given

-- ---- it goes on

-- RLC goes on
record Further (w : Way) (from to : BearerEnd) (steps : List RlcStep) (sdus ups : List (List ℕ)) (ps : List Passing) :
    Type 0 where
  all : List RlcStep
  given : AreGivenSteps (am_rlc_outset w.sending w.receiving) all
  is : IsFlow from to (flow_by w all)
  offered_is : offered (flow_by w all) ≡ offered (flow_by w steps) ++ sdus
  total_is : total (flow_by w all) ≡ total (flow_by w steps) ++ ups
  told_is : with_passings (passed all (am_rlc_outset w.sending w.receiving)) nothing_told
      ≡ with_passings ps (with_passings (passed steps (am_rlc_outset w.sending w.receiving)) nothing_told)

further : (w : Way) (from to d p : BearerEnd) (submitted ups : List (List ℕ)) (j : Joined w from to submitted ups)
    (sdus more : List (List ℕ)) (ps : List Passing)
    → Goes (flow_by w j.steps) d.bearer.tx p.bearer.rx d.copies p.reports d.busy sdus more ps
    → Further w d p j.steps sdus more ps
further w from to d p submitted ups j sdus more ps m =
    let f = flow_by w j.steps in
    let first = am_rlc_outset w.sending w.receiving in
    let same = sym (goes_more (am_rlc_outset w.sending w.receiving) j.steps m.steps) in
    record {
      all = j.steps ++ m.steps;
      given = given_more (am_rlc_outset w.sending w.receiving) j.steps m.steps j.given m.given;
      is = subst (IsFlow d p) same (is_flow d p (rlc_goes m.steps f) m.stands);
      offered_is = ap offered (sym same) ∙ m.offered_is;
      total_is = ap total (sym same) ∙ m.total_is;
      told_is =
          ap (λ (l : List Passing). with_passings l nothing_told)
          (passed_more j.steps m.steps first ∙ ap (λ (l : List Passing). passed j.steps first ++ l) m.passed_is)
          ∙ told_then (passed j.steps first) ps nothing_told;
    }

-- a sender takes some more, of those that waited or were submitted
pub record SendsOn (w : Way) (sdus : List (List ℕ)) (s t : Sending) (submitted offers : List (List ℕ)) : Type 0 where
  pub news : List (List ℕ)
  pub sends : Sends w.first w.protection (sdus ++ news) t
  pub queued : queue s ++ submitted ≡ news ++ queue t
  pub offers_are : offers ≡ pdus_from w.protection (w.first + length sdus) news

-- at the end that sends
pub out_goes : (w : Way) (from to d p : BearerEnd) (submitted ups more offers : List (List ℕ)) (ps : List Passing)
    (j : Joined w from to submitted ups)
    → Goes (flow_by w j.steps) d.bearer.tx p.bearer.rx d.copies p.reports d.busy offers [] ps
    → SendsOn w (ups ++ j.later) from.bearer.pdcp.tx d.bearer.pdcp.tx more offers → p.bearer.pdcp.rx ≡ to.bearer.pdcp.rx
    → Joined (with_told ps w) d p (submitted ++ more) ups
out_goes w from to d p submitted ups more offers ps j m s rx =
    let q = w.protection in
    let on = further w from to d p submitted ups j offers [] ps m in
    let sdus = ups ++ j.later in
    let all : sdus ++ s.news ≡ ups ++ (j.later ++ s.news) = append_assoc ups j.later s.news in
    record {
      steps = on.all;
      given = on.given;
      is = on.is;
      later = j.later ++ s.news;
      sends = subst (λ l. Sends w.first q l d.bearer.pdcp.tx) all s.sends;
      offered_is = on.offered_is ∙ ap (λ l. l ++ offers) j.offered_is
          ∙ ap (λ l. pdus_from q w.first sdus ++ l) s.offers_are
          ∙ sym (pdus_both q w.first sdus s.news) ∙ ap (pdus_from q w.first) all;
      total_is = on.total_is ∙ append-nil (total (flow_by w j.steps)) ∙ j.total_is;
      hears = subst (Hears w.first q (length ups)) (sym rx) j.hears;
      told_is = ap (with_passings ps) j.told_is ∙ sym on.told_is;
      submitted_is = ap (λ l. l ++ more) j.submitted_is ∙ append_assoc sdus (queue from.bearer.pdcp.tx) more
          ∙ ap (λ l. sdus ++ l) s.queued
          ∙ sym (append_assoc sdus s.news (queue d.bearer.pdcp.tx)) ∙ ap (λ l. l ++ queue d.bearer.pdcp.tx) all;
    }

-- at the end that hears: some more go up, the next ones of those that were taken
pub record HearsOn (w : Way) (ups later brought : List (List ℕ)) : Type 0 where
  pub news : List (List ℕ)
  pub rest : List (List ℕ)
  pub later_is : later ≡ news ++ rest
  pub brought_is : brought ≡ pdus_from w.protection (w.first + length ups) news

pub inn_goes : (w : Way) (from to d p : BearerEnd) (submitted ups brought : List (List ℕ)) (ps : List Passing)
    (j : Joined w from to submitted ups) (h : HearsOn w ups j.later brought)
    → Goes (flow_by w j.steps) d.bearer.tx p.bearer.rx d.copies p.reports d.busy [] brought ps
    → Hears w.first w.protection (length ups + length h.news) p.bearer.pdcp.rx → d.bearer.pdcp.tx ≡ from.bearer.pdcp.tx
    → Joined (with_told ps w) d p submitted (ups ++ h.news)
inn_goes w from to d p submitted ups brought ps j h m hears tx =
    let q = w.protection in
    let on = further w from to d p submitted ups j [] brought ps m in
    let all : ups ++ j.later ≡ (ups ++ h.news) ++ h.rest =
    ap (λ l. ups ++ l) h.later_is ∙ sym (append_assoc ups h.news h.rest) in
    let size : length ups + length h.news ≡ length (ups ++ h.news) = sym (length-append ups h.news) in
    record {
      steps = on.all;
      given = on.given;
      is = on.is;
      later = h.rest;
      sends = subst (Sends w.first q ((ups ++ h.news) ++ h.rest)) (sym tx)
          (subst (λ l. Sends w.first q l from.bearer.pdcp.tx) all j.sends);
      offered_is = on.offered_is ∙ append-nil (offered (flow_by w j.steps)) ∙ j.offered_is
          ∙ ap (pdus_from q w.first) all;
      total_is = on.total_is ∙ ap (λ l. l ++ brought) j.total_is ∙ ap (λ l. pdus_from q w.first ups ++ l) h.brought_is
          ∙ sym (pdus_both q w.first ups h.news);
      hears = subst (λ n. Hears w.first q n p.bearer.pdcp.rx) size hears;
      told_is = ap (with_passings ps) j.told_is ∙ sym on.told_is;
      submitted_is = j.submitted_is ∙ ap (λ l. l ++ queue from.bearer.pdcp.tx) all
          ∙ ap (λ (s : Sending). ((ups ++ h.news) ++ h.rest) ++ queue s) (sym tx);
    }

-- ---- what RLC brings up are the next PDUs of those that it was offered

heads_same : (x y : List ℕ) (xs ys : List (List ℕ)) → x ∷ xs ≡ y ∷ ys → x ≡ y
heads_same x y xs ys e = cc

tails_same : (x y : List ℕ) (xs ys : List (List ℕ)) → x ∷ xs ≡ y ∷ ys → xs ≡ ys
tails_same x y xs ys e = cc

cancel : (xs ys zs : List (List ℕ)) → xs ++ ys ≡ xs ++ zs → ys ≡ zs
cancel [] ys zs e = e
cancel (x ∷ xs) ys zs e = cancel xs ys zs (tails_same x x (xs ++ ys) (xs ++ zs) e)

record Parts (p : Protection) (count : ℕ) (sdus brought : List (List ℕ)) : Type 0 where
  news : List (List ℕ)
  rest : List (List ℕ)
  sdus_are : sdus ≡ news ++ rest
  brought_is : brought ≡ pdus_from p count news

split : (p : Protection) (count : ℕ) (sdus brought rest : List (List ℕ)) → pdus_from p count sdus ≡ brought ++ rest
    → Parts p count sdus brought
split p count sdus [] rest e = record { news = []; rest = sdus; sdus_are = refl; brought_is = refl }
split p count [] (b ∷ brought) rest e = absurd cc
split p count (x ∷ sdus) (b ∷ brought) rest e =
    let more =
    split p (count + 1) sdus brought rest
    (tails_same (pdu Srb p count x) b (pdus_from p (count + 1) sdus) (brought ++ rest) e) in
    record {
      news = x ∷ more.news;
      rest = more.rest;
      sdus_are = ap (λ l. x ∷ l) more.sdus_are;
      brought_is =
          ap (λ y. y ∷ brought)
          (sym (heads_same (pdu Srb p count x) b (pdus_from p (count + 1) sdus) (brought ++ rest) e))
          ∙ ap (λ l. pdu Srb p count x ∷ l) more.brought_is;
    }

pub next_are : (w : Way) (from to d p : BearerEnd) (submitted ups brought : List (List ℕ)) (ps : List Passing)
    (j : Joined w from to submitted ups)
    → Goes (flow_by w j.steps) d.bearer.tx p.bearer.rx d.copies p.reports d.busy [] brought ps
    → HearsOn w ups j.later brought
next_are w from to d p submitted ups brought ps j m =
    let q = w.protection in
    let on = further w from to d p submitted ups j [] brought ps m in
    let front : AreFirstSdus (total (flow_by w on.all)) (offered (flow_by w on.all)) =
    hands-up-the-front w.sending w.receiving on.all on.given in
    let whole : pdus_from q w.first (ups ++ j.later) ≡ (pdus_from q w.first ups ++ brought) ++ front.rest =
    sym j.offered_is ∙ sym (append-nil (offered (flow_by w j.steps))) ∙ sym on.offered_is ∙ front.is
    ∙ ap (λ l. l ++ front.rest) (on.total_is ∙ ap (λ l. l ++ brought) j.total_is) in
    let tail : pdus_from q (w.first + length ups) j.later ≡ brought ++ front.rest =
    cancel (pdus_from q w.first ups) (pdus_from q (w.first + length ups) j.later) (brought ++ front.rest)
    (sym (pdus_both q w.first ups j.later) ∙ whole ∙ append_assoc (pdus_from q w.first ups) brought front.rest) in
    let parts = split q (w.first + length ups) j.later brought front.rest tail in
    record { news = parts.news; rest = parts.rest; later_is = parts.sdus_are; brought_is = parts.brought_is }

-- of these none is empty, and their COUNTs are within 32 bits
pub record AreNext (w : Way) (ups news : List (List ℕ)) : Type 0 where
  pub some : AreNonempty news
  pub few : w.first + length ups + length news ≤ 2 ^ 32

some_then : (xs ys : List (List ℕ)) → AreNonempty (xs ++ ys) → AreNonempty xs × AreNonempty ys
some_then [] ys h = (tt, h)
some_then (x ∷ xs) ys h = let rest = some_then xs ys h.1 in ((h.0, rest.0), rest.1)

pub are_next : (w : Way) (from to : BearerEnd) (submitted ups brought : List (List ℕ))
    (j : Joined w from to submitted ups) (h : HearsOn w ups j.later brought) → AreNext w ups h.news
are_next w from to submitted ups brought j h =
    let all = some_then ups j.later j.sends.some in
    let size : length (ups ++ j.later) ≡ length ups + length j.later = length-append ups j.later in
    let part : length j.later ≡ length h.news + length h.rest = ap length h.later_is ∙ length-append h.news h.rest in
    record {
      some = (some_then h.news h.rest (subst AreNonempty h.later_is all.1)).0;
      few = omega (arith, j.sends.count, j.sends.room, size, part);
    }
