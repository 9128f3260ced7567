-- Any steps keep what holds of a flow.
use Rattle.std.proofs.Common.{◌≡◌, ℕ, suc, zero, Bool, false, List, [], ◌∷◌, length, Option, Some, None, slice_get}
use Rattle.std.proofs.Common.{refl, sym, subst, arith}
use Rattle.std.specs.List.{AllByRecursion}
use Rattle.l2_types.specs.declared.config.AmTxConfig.{AmTxConfig}
use Rattle.l2_types.specs.declared.AmRxConfig.{AmRxConfig}
use Rattle.rlc_am_tx.specs.Machine.{State}
use Rattle.law_rlc.specs.AmSender.Octets.{Place}
use Rattle.law_rlc.specs.AmSender.Watched.{IsWatched}
use Rattle.law_rlc.proofs.AmSender.Least.{fresh-fits}
use Rattle.law_rlc.proofs.AmSender.Watches.{watches}
use Rattle.law_rlc.proofs.AmSender.Writes.{start-keeps}
use Rattle.law_rlc.specs.AmReceiver.Run.{Came}
use Rattle.law_rlc.proofs.AmReceiver.Clash.{none_clashes}
use Rattle.law_rlc.specs.AmPair.Flow.{Copy, Report, Flow, Step, Sends, Receives, Reports, DataComes, StatusComes}
use Rattle.law_rlc.specs.AmPair.Flow.{DataGoes, StatusGoes, Passes, sender, receiver, except, older, data_comes}
use Rattle.law_rlc.specs.AmPair.Flow.{status_comes, happens, goes, am_rlc_outset}
use Rattle.law_rlc.specs.AmPair.Given.{IsYoung, IsGiven, AreGiven}
use Rattle.law_rlc.specs.AmPair.Fields.{field_of, HearsWhatWasSent, NothingClashes}
use Rattle.law_rlc.specs.AmPair.Numbers.{KeepsOrder, AckedHasArrived}
use Rattle.law_rlc.specs.AmPair.Statuses.{IsReadRight, ReadsEachNumber}
use Rattle.law_rlc.specs.AmPair.Confirmed.{ConfirmedArrives}
use Rattle.law_rlc.specs.AmPair.Sdus.{HandsUpTheFront}
use Rattle.law_rlc.specs.AmPair.Seen.{HandsUpInSequence, FinishGivesTheWhole}
use Rattle.law_rlc.specs.AmPair.Arrives.{ArrivedWasOffered, ArrivalsStay, OnlyDataArrives, NextIsReady}
use Rattle.law_rlc.specs.AmPair.Arrives.{FinishGivesByPlaces, ConfirmsWhatArrived}
use Rattle.law_rlc.specs.AmPair.Steps.{OffersAreSent}
use Rattle.law_rlc.specs.AmPair.Left.{HandsUpAll}
use Rattle.law_rlc.specs.AmPair.Watched.{PollTimerRuns}
use Rattle.law_rlc.proofs.AmPair.Runs.{sender-state}
use Rattle.law_rlc.proofs.AmPair.Sound.{IsTrueCopy, at-most-one, IsTrueReport, HasTrueEntries, IsSound, each}
use Rattle.law_rlc.proofs.AmPair.Sending.{sends-sound}
use Rattle.law_rlc.proofs.AmPair.Hearing.{receives-sound, comes-sound, in-order}
use Rattle.law_rlc.proofs.AmPair.Fields.{sent-field, are-fields}
use Rattle.law_rlc.proofs.AmPair.Whole.{flow-stream}
use Rattle.law_rlc.proofs.AmPair.Sdus.{hands-up}
use Rattle.law_rlc.proofs.AmPair.Finished.{gives-the-whole}
use Rattle.law_rlc.proofs.AmPair.Covered.{arrives}
use Rattle.law_rlc.proofs.AmPair.Sequence.{goes-up-in-sequence}
use Rattle.law_rlc.proofs.AmPair.Arrived.{has-arrived}
use Rattle.law_rlc.proofs.AmPair.Later.{arrivals-stay, arrivals-same}
use Rattle.law_rlc.proofs.AmPair.ByPlace.{arrived-offered, has-ready, finish-places, confirms-arrived, is-offered}
use Rattle.law_rlc.proofs.AmPair.Left.{has-all-up}
use Rattle.law_rlc.proofs.AmPair.Statuses.{read-right, reports-sound, status-sound}

-- ---- what is under way

each-at : {A : Type 0} (P : A → Type 0) (xs : List A) (k : ℕ) (x : A) → AllByRecursion P xs → slice_get xs k ≡ Some x
    → P x
each-at P [] k x h e = let no' : None ≡ Some x = e in cc
each-at P (y ∷ ys) zero x h e = let same : Some y ≡ Some x = e in let is : y ≡ x = cc in subst P is h.0
each-at P (y ∷ ys) (suc k) x h e = each-at P ys k x h.1 e

each-except : {A : Type 0} (P : A → Type 0) (k : ℕ) (xs : List A) → AllByRecursion P xs → AllByRecursion P (except k xs)
each-except P k [] h = h
each-except P zero (x ∷ xs) h = h.1
each-except P (suc k) (x ∷ xs) h = (h.0, each-except P k xs h.1)

data-sound : (f : Flow) (o : Option Copy) → ((c : Copy) → o ≡ Some c → IsTrueCopy (sender f).past.sent c) → IsSound f
    → IsSound (data_comes f o)
data-sound f None at h = h
data-sound f (Some c) at h = comes-sound f c (at c refl) h

report-sound : (f : Flow) (o : Option Report)
    → ((r : Report) → o ≡ Some r → IsTrueReport (receiver f).kept (length (sender f).past.sent) f.busy r)
    → ((r : Report) → o ≡ Some r → HasTrueEntries (sender f).past.sent r)
    → IsSound f → IsSound (status_comes f o)
report-sound f None at names h = h
report-sound f (Some r) at names h = status-sound f r (at r refl) (names r refl) h

-- a TTI later
reports-older : (kept : List Came) (next : ℕ) (busy : Bool) (rs : List Report) → AllByRecursion IsYoung rs
    → AllByRecursion (IsTrueReport kept next busy) rs → AllByRecursion (IsTrueReport kept next false) (older rs)
reports-older kept next busy [] y h = tt
reports-older kept next busy (r ∷ rs) y h =
    let q = h.0 in let young = q.young in let few = at-most-one busy in let a = y.0 in (
      record {
        reads = q.reads;
        known = q.known;
        age = omega (arith, a);
        young = omega (arith, young, few);
        complete = q.complete;
        near = λ n e. let c = (q.near n e).0 in let d = (q.near n e).1 in (c, omega (arith, d, few));
      },
      reports-older kept next busy rs y.1 h.1,
    )

entries-older : (sent : List (List Place)) (rs : List Report) → AllByRecursion (HasTrueEntries sent) rs
    → AllByRecursion (HasTrueEntries sent) (older rs)
entries-older sent [] h = tt
entries-older sent (r ∷ rs) h = (record { below = h.0.below; octets = h.0.octets }, entries-older sent rs h.1)

-- ---- any step

pub happens-sound : (f : Flow) (s : Step) → IsGiven f s → IsSound f → IsSound (happens f s)
happens-sound f (Sends c) g h = sends-sound f c g h
happens-sound f (Receives c) g h = receives-sound f c g h
happens-sound f (Reports size octets) g h = reports-sound f size octets g h
happens-sound f (DataComes k) g h =
    data-sound f (slice_get f.copies k) (λ c e. each-at (IsTrueCopy (sender f).past.sent) f.copies k c h.copies e) h
happens-sound f (StatusComes k) g h =
    report-sound f (slice_get f.reports k)
    (λ r e. each-at (IsTrueReport (receiver f).kept (length (sender f).past.sent) f.busy) f.reports k r h.reports e)
    (λ r e. each-at (HasTrueEntries (sender f).past.sent) f.reports k r h.entries e) h
happens-sound f (DataGoes k) g h = record {
  offered = h.offered;
  keeps = h.keeps;
  fits = h.fits;
  aired = h.aired;
  copies = each-except (IsTrueCopy (sender f).past.sent) k f.copies h.copies;
  reports = h.reports;
  entries = h.entries;
  fair = h.fair;
  known = h.known;
  top = h.top;
  kept = h.kept;
  some = h.some;
  honest = h.honest;
}
happens-sound f (StatusGoes k) g h = record {
  offered = h.offered;
  keeps = h.keeps;
  fits = h.fits;
  aired = h.aired;
  copies = h.copies;
  reports = each-except (IsTrueReport (receiver f).kept (length (sender f).past.sent) f.busy) k f.reports h.reports;
  entries = each-except (HasTrueEntries (sender f).past.sent) k f.reports h.entries;
  fair = h.fair;
  known = h.known;
  top = h.top;
  kept = h.kept;
  some = h.some;
  honest = h.honest;
}
happens-sound f Passes g h = record {
  offered = h.offered;
  keeps = h.keeps;
  fits = h.fits;
  aired = h.aired;
  copies = h.copies;
  reports = reports-older (receiver f).kept (length (sender f).past.sent) f.busy f.reports g h.reports;
  entries = entries-older (sender f).past.sent f.reports h.entries;
  fair = h.fair;
  known = h.known;
  top = h.top;
  kept = h.kept;
  some = h.some;
  honest = h.honest;
}

pub goes-sound : (steps : List Step) (f : Flow) → AreGiven f steps → IsSound f → IsSound (goes steps f)
goes-sound [] f g h = h
goes-sound (s ∷ ss) f g h = goes-sound ss (happens f s) g.1 (happens-sound f s g.0 h)

pub outset-sound : (sending : AmTxConfig) (receiving : AmRxConfig) → IsSound (am_rlc_outset sending receiving)
outset-sound sending receiving = record {
  offered = tt;
  keeps = start-keeps sending;
  fits = fresh-fits sending;
  aired = λ n lt. absurd (omega arith);
  copies = tt;
  reports = tt;
  entries = tt;
  fair = tt;
  known = λ n e. cc;
  top = omega arith;
  kept = tt;
  some = tt;
  honest = λ field agree. tt;
}

pub sound : (sending : AmTxConfig) (receiving : AmRxConfig) (steps : List Step)
    → AreGiven (am_rlc_outset sending receiving) steps → IsSound (goes steps (am_rlc_outset sending receiving))
sound sending receiving steps g = goes-sound steps (am_rlc_outset sending receiving) g (outset-sound sending receiving)

-- ---- the laws

pub keeps-order : KeepsOrder
keeps-order sending receiving steps g =
    in-order (goes steps (am_rlc_outset sending receiving)) (sound sending receiving steps g)

pub acked-has-arrived : AckedHasArrived
acked-has-arrived sending receiving steps n g a =
    has-arrived (goes steps (am_rlc_outset sending receiving)) n (sound sending receiving steps g) a

pub reads-each-number : ReadsEachNumber
reads-each-number sending receiving steps g =
    let f : Flow = goes steps (am_rlc_outset sending receiving) in
    let h : IsSound (goes steps (am_rlc_outset sending receiving)) = sound sending receiving steps g in
    each (IsTrueReport (receiver f).kept (length (sender f).past.sent) f.busy) (IsReadRight (sender f).state)
    (λ r q. read-right (goes steps (am_rlc_outset sending receiving)) h r q) f.reports h.reports

pub nothing-clashes : NothingClashes
nothing-clashes sending receiving steps g =
    let h : IsSound (goes steps (am_rlc_outset sending receiving)) = sound sending receiving steps g in
    none_clashes (field_of (sender (goes steps (am_rlc_outset sending receiving))).past.sent)
    (goes steps (am_rlc_outset sending receiving)).receiving (goes steps (am_rlc_outset sending receiving)).heard
    (are-fields (sender (goes steps (am_rlc_outset sending receiving))).past.sent h.aired)
    (h.honest (field_of (sender (goes steps (am_rlc_outset sending receiving))).past.sent)
    (sent-field (sender (goes steps (am_rlc_outset sending receiving))).past.sent))

pub hears-what-was-sent : HearsWhatWasSent
hears-what-was-sent sending receiving steps g =
    let h : IsSound (goes steps (am_rlc_outset sending receiving)) = sound sending receiving steps g in
    record {
      stream = flow-stream (goes steps (am_rlc_outset sending receiving)) h;
      parts = h.honest (field_of (sender (goes steps (am_rlc_outset sending receiving))).past.sent)
          (sent-field (sender (goes steps (am_rlc_outset sending receiving))).past.sent);
    }

pub hands-up-the-front : HandsUpTheFront
hands-up-the-front sending receiving steps g =
    hands-up (goes steps (am_rlc_outset sending receiving)) (sound sending receiving steps g)

pub finish-gives-the-whole : FinishGivesTheWhole
finish-gives-the-whole sending receiving steps g =
    gives-the-whole (goes steps (am_rlc_outset sending receiving)) (sound sending receiving steps g)

pub confirmed-arrives : ConfirmedArrives
confirmed-arrives sending receiving steps place g some =
    arrives (goes steps (am_rlc_outset sending receiving)) place (sound sending receiving steps g) some

pub hands-up-in-sequence : HandsUpInSequence
hands-up-in-sequence sending receiving steps g =
    goes-up-in-sequence (goes steps (am_rlc_outset sending receiving)) (sound sending receiving steps g)

pub arrived-was-offered : ArrivedWasOffered
arrived-was-offered sending receiving steps g =
    λ place e. arrived-offered (goes steps (am_rlc_outset sending receiving)) place (sound sending receiving steps g) e

pub arrived-stays : ArrivalsStay
arrived-stays sending receiving steps g =
    λ s place given e. arrivals-stay (goes steps (am_rlc_outset sending receiving)) s place
    (sound sending receiving steps g)
    given e

pub only-data-arrives : OnlyDataArrives
only-data-arrives sending receiving steps g =
    λ s place given e. arrivals-same (goes steps (am_rlc_outset sending receiving)) s place
    (sound sending receiving steps g)
    given e

pub next-is-ready : NextIsReady
next-is-ready sending receiving steps g =
    has-ready (goes steps (am_rlc_outset sending receiving)) (sound sending receiving steps g)

pub finish-gives-by-places : FinishGivesByPlaces
finish-gives-by-places sending receiving steps g =
    finish-places (goes steps (am_rlc_outset sending receiving)) (sound sending receiving steps g)

pub confirms-what-arrived : ConfirmsWhatArrived
confirms-what-arrived sending receiving steps g =
    λ k place e. confirms-arrived (goes steps (am_rlc_outset sending receiving)) k place
    (sound sending receiving steps g) e

pub offers-are-sent : OffersAreSent
offers-are-sent sending receiving steps g =
    is-offered (goes steps (am_rlc_outset sending receiving)) (sound sending receiving steps g)

pub hands-up-all : HandsUpAll
hands-up-all sending receiving steps g =
    has-all-up (goes steps (am_rlc_outset sending receiving)) (sound sending receiving steps g)

pub poll-timer-runs : PollTimerRuns
poll-timer-runs sending receiving steps g =
    let f : Flow = goes steps (am_rlc_outset sending receiving) in
    subst (λ (s : State). IsWatched s) (sym (sender-state f))
    (watches f.sending f.sent (sound sending receiving steps g).fair)
