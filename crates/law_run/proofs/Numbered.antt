-- What an acknowledged sender tells of, by its window: new PDUs have the numbers from VT(S) on, and one that is sent
-- again has a number of the window (TS 36.322 5.1.3.1.1, 5.2.1, 7.1).
use Rattle.std.proofs.Common.{◌≡◌, ℕ, ◌≤◌, ◌==◌, Bool, true, false, cond, if◌then◌else◌, List, [], ◌∷◌}
use Rattle.std.proofs.Common.{◌++◌, length, refl, ap, sym, subst, ◌∙◌, arith}
use Rattle.std.proofs.lemmas.Bool.Decides.{nat_tests}
use Rattle.bearer_types.specs.declared.event.Event.{Event}
use Rattle.bearer_types.specs.declared.event.Event.TheVariants as events
use Rattle.l2_types.specs.declared.event.How.{How}
use Rattle.l2_types.specs.declared.event.How.TheVariants as hows
use Rattle.prioritise.proofs.ChannelLemmas.{both_false}
use Rattle.promises.specs.Events.{is_on, told_on}
use Rattle.promises.specs.Names.{SentPdu, sent_pdus}
use Rattle.promises.specs.SentNumbers.{IsNumber, next_by, next_behind, AreNumbers}
use Rattle.promises.specs.Silent.{is_of_sender}
use Rattle.rlc_am_tx_window.specs.Window.{TxWindow, next}
use Rattle.rlc_pdu.specs.declared.constants.TheConstants.{AM_WINDOW_SIZE}
use Rattle.law_run.proofs.Quiet.{tell_sender}

-- ---- the numbers of events, whatever their channel

abbrev pub IsNumbered : ℕ → Event → Type 0
IsNumbered n (events.Send lcid how sn) = IsNumber how n sn
IsNumbered n e = Unit {0}

abbrev pub number_behind : ℕ → Event → ℕ
number_behind n (events.Send lcid how sn) = next_by how n
number_behind n e = n

abbrev pub AreNumbered : ℕ → List Event → Type 0
AreNumbered n [] = Unit {0}
AreNumbered n (e ∷ told) = IsNumbered n e × AreNumbered (number_behind n e) told

abbrev pub number_over : ℕ → List Event → ℕ
number_over n [] = n
number_over n (e ∷ told) = number_over (number_behind n e) told

numbered_then : (n : ℕ) (xs ys : List Event) → AreNumbered n xs → AreNumbered (number_over n xs) ys
    → AreNumbered n (xs ++ ys)
numbered_then n [] ys p q = q
numbered_then n (x ∷ xs) ys p q = (p.0, numbered_then (number_behind n x) xs ys p.1 q)

over_then : (n : ℕ) (xs ys : List Event) → number_over n (xs ++ ys) ≡ number_over (number_over n xs) ys
over_then n [] ys = refl
over_then n (x ∷ xs) ys = over_then (number_behind n x) xs ys

-- where nothing is told of the sender
still_one : (n : ℕ) (e : Event) → is_of_sender e ≡ false → IsNumbered n e
still_one n (events.Send lcid hows.New sn) h = absurd cc
still_one n (events.Send lcid hows.Re sn) h = absurd cc
still_one n (events.Send lcid hows.Tm sn) h = tt
still_one n (events.Send lcid hows.Status sn) h = tt
still_one n e h = tt

still_behind : (n : ℕ) (e : Event) → is_of_sender e ≡ false → number_behind n e ≡ n
still_behind n (events.Send lcid hows.New sn) h = absurd cc
still_behind n (events.Send lcid hows.Re sn) h = refl
still_behind n (events.Send lcid hows.Tm sn) h = refl
still_behind n (events.Send lcid hows.Status sn) h = refl
still_behind n e h = refl

pub still_numbered : (n : ℕ) (told : List Event) → tell_sender told ≡ false → AreNumbered n told
still_numbered n [] h = tt
still_numbered n (e ∷ told) h =
    let parts = both_false (is_of_sender e) (tell_sender told) h in
    (still_one n e parts.0, still_numbered (number_behind n e) told parts.1)

pub still_over : (n : ℕ) (told : List Event) → tell_sender told ≡ false → number_over n told ≡ n
still_over n [] h = refl
still_over n (e ∷ told) h =
    let parts = both_false (is_of_sender e) (tell_sender told) h in
    still_over (number_behind n e) told parts.1 ∙ still_behind n e parts.0

-- ---- from one window to another; VT(S) lies at most 512 above VT(A)

abbrev pub Fits : TxWindow → Type 0
Fits w = length w.slots ≤ AM_WINDOW_SIZE

pub record Sends (a : TxWindow) (told : List Event) (b : TxWindow) : Type 0 where
  pub numbered : AreNumbered (next a) told
  pub next_is : next b ≡ number_over (next a) told
  pub fits : Fits b

abbrev pub Writes : TxWindow → List Event → TxWindow → Type 0
Writes a told b = Fits a → Sends a told b

-- the next number is as it was, and the window has grown by none
pub record IsKept (a b : TxWindow) : Type 0 where
  pub next_is : next b ≡ next a
  pub few : length b.slots ≤ length a.slots

pub kept_same : (w : TxWindow) → IsKept w w
kept_same w = record { next_is = refl; few = omega arith }

pub kept_then : (a b c : TxWindow) → IsKept a b → IsKept b c → IsKept a c
kept_then a b c p q = record { next_is = q.next_is ∙ p.next_is; few = omega (arith, p.few, q.few) }

pub writes_kept : (a b : TxWindow) (told : List Event) → tell_sender told ≡ false → IsKept a b → Writes a told b
writes_kept a b told h k fits = record {
  numbered = still_numbered (next a) told h;
  next_is = k.next_is ∙ sym (still_over (next a) told h);
  fits = omega (arith, k.few, fits);
}

pub writes_still : (w : TxWindow) (told : List Event) → tell_sender told ≡ false → Writes w told w
writes_still w told h = writes_kept w w told h (kept_same w)

pub writes_then : (a b c : TxWindow) (xs ys : List Event) → Writes a xs b → Writes b ys c → Writes a (xs ++ ys) c
writes_then a b c xs ys p q fits =
    let x = p fits in
    let y = q x.fits in
    record {
      numbered = numbered_then (next a) xs ys x.numbered (subst (λ (n : ℕ). AreNumbered n ys) x.next_is y.numbered);
      next_is = y.next_is ∙ ap (λ (n : ℕ). number_over n ys) x.next_is ∙ sym (over_then (next a) xs ys);
      fits = y.fits;
    }

-- ---- in the promise's words: of all that is told, what is told of the channel

abbrev pub next_over : ℕ → ℕ → List SentPdu → ℕ
next_over l n [] = n
next_over l n (s ∷ sent) = next_over l (next_behind l s n) sent

pub numbers_then : (l n : ℕ) (xs ys : List SentPdu) → AreNumbers l n xs → AreNumbers l (next_over l n xs) ys
    → AreNumbers l n (xs ++ ys)
numbers_then l n [] ys p q = q
numbers_then l n (x ∷ xs) ys p q = (p.0, numbers_then l (next_behind l x n) xs ys p.1 q)

pub next_then : (l n : ℕ) (xs ys : List SentPdu) → next_over l n (xs ++ ys) ≡ next_over l (next_over l n xs) ys
next_then l n [] ys = refl
next_then l n (x ∷ xs) ys = next_then l (next_behind l x n) xs ys

pub record OnChannel (l n : ℕ) (sent : List SentPdu) (told : List Event) : Type 0 where
  pub numbers : AreNumbers l n sent
  pub next_is : next_over l n sent ≡ number_over n told

other_channel : (a b : ℕ) → (a == b) ≡ false → (a ≡ b → ⊥)
other_channel a b e = grind (arith, nat_tests)

send_on : (here : Bool) (l n lcid : ℕ) (how : How) (sn : ℕ) (sent : List SentPdu) (told : List Event)
    → (lcid == l) ≡ here → AreNumbered n (cond here (events.Send lcid how sn ∷ told) told)
    → ((m : ℕ) → AreNumbered m told → OnChannel l m sent told)
    → OnChannel l n (record { lcid = lcid; how = how; sn = sn } ∷ sent)
    (cond here (events.Send lcid how sn ∷ told) told)
send_on true l n lcid how sn sent told is h rest =
    let m = next_by how n in
    let more = rest m h.1 in
    let step : (if lcid == l then m else n) ≡ m = ap (λ (b : Bool). if b then m else n) is in
    record {
      numbers = (λ same. h.0, subst (λ (k : ℕ). AreNumbers l k sent) (sym step) more.numbers);
      next_is = ap (λ (k : ℕ). next_over l k sent) step ∙ more.next_is;
    }
send_on false l n lcid how sn sent told is h rest =
    let more = rest n h in
    let step : (if lcid == l then next_by how n else n) ≡ n = ap (λ (b : Bool). if b then next_by how n else n) is in
    record {
      numbers = (
        λ same. absurd (other_channel lcid l is same),
        subst (λ (k : ℕ). AreNumbers l k sent) (sym step) more.numbers,
      );
      next_is = ap (λ (k : ℕ). next_over l k sent) step ∙ more.next_is;
    }

other_on : (here : Bool) (l n : ℕ) (e : Event) (sent : List SentPdu) (told : List Event)
    → ((m : ℕ) → IsNumbered m e) → ((m : ℕ) → number_behind m e ≡ m)
    → AreNumbered n (cond here (e ∷ told) told) → (AreNumbered n told → OnChannel l n sent told)
    → OnChannel l n sent (cond here (e ∷ told) told)
other_on true l n e sent told free same h rest =
    let more = rest (subst (λ (m : ℕ). AreNumbered m told) (same n) h.1) in
    record { numbers = more.numbers; next_is = more.next_is ∙ sym (ap (λ (m : ℕ). number_over m told) (same n)) }
other_on false l n e sent told free same h rest = rest h

pub on_channel : (l n : ℕ) (told : List Event) → AreNumbered n (told_on l told)
    → OnChannel l n (sent_pdus told) (told_on l told)
on_channel l n [] h = record { numbers = tt; next_is = refl }
on_channel l n (events.Send lcid how sn ∷ told) h =
    send_on (lcid == l) l n lcid how sn (sent_pdus told) (told_on l told) refl h (λ m k. on_channel l m told k)
on_channel l n (e ∷ told) h =
    other_on (is_on l e) l n e (sent_pdus told) (told_on l told) (λ m. tt) (λ m. refl) h (λ k. on_channel l n told k)
