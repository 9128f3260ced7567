-- What a sender owes is short through each of its calls.
use Rattle.std.proofs.Common.{◌≡◌, ℕ, ◌-◌, Bool, true, false, List, [], ◌∷◌, take, Option, None, Some, Result, Ok, Err}
use Rattle.std.proofs.Common.{refl, ap, sym, ◌∙◌, subst}
use Rattle.std.specs.Prelude.{OnOk, OnErr, IfOk, IfErr, IfSome, IsTrue, IsErr}
use Rattle.eps_sec.specs.declared.Keys.{Keys}
use Rattle.l2_bits.specs.declared.NoMemory.{NoMemory}
use Rattle.l2_bits.specs.declared.SubmitRefusal.{SubmitRefusal}
use Rattle.l2_bits.specs.declared.SubmitRefusal.TheVariants as refusals
use Rattle.pdcp_pdu.specs.declared.PdcpKind.{PdcpKind}
use Rattle.pdcp_sec.specs.Protection.{Protection}
use Rattle.pdcp_tx_store.specs.declared.Sent.{Sent}
use Rattle.pdcp_tx_store.specs.Waiting.{Waits}
use Rattle.pdcp_tx.specs.declared.Next.{Next}
use Rattle.pdcp_tx.specs.Entity.{Entity, alive, KeepsOrDies}
use Rattle.pdcp_tx.specs.State.{State as Sending, IsShort, HasSize, submitted, took, took_new, took_again, took_owed}
use Rattle.pdcp_tx.specs.State.{confirmed, fms_count, reported, reported_from, after_late, restarted, start}
use Rattle.bearer_pdcp.specs.Lives.{OwesShort}

owed_submitted : (s : Sending) (sdu : List ℕ) → (submitted s sdu).owed ≡ s.owed
unfolding submitted
owed_submitted s sdu = refl

owed_confirmed : (s : Sending) (place : ℕ) → (confirmed s place).owed ≡ s.owed
unfolding confirmed
owed_confirmed s place = refl

owed_reported_from : (from : Option ℕ) (s : Sending) (bitmap : List ℕ) → (reported_from from s bitmap).owed ≡ s.owed
owed_reported_from None s bitmap = refl
owed_reported_from (Some from) s bitmap = refl

owed_reported : (s : Sending) (fms : ℕ) (bitmap : List ℕ) → (reported s fms bitmap).owed ≡ s.owed
unfolding reported
owed_reported s fms bitmap = owed_reported_from (fms_count s.kind s.base fms) s bitmap

pub owed_late : (s : Sending) → (after_late s).owed ≡ s.owed
unfolding after_late
owed_late s = refl

owed_new : (ws : List Waits) (s : Sending) → (took_new ws s).owed ≡ s.owed
owed_new [] s = refl
owed_new (w ∷ ws) s = refl

owed_again : (ss : List Sent) (s : Sending) → (took_again ss s).owed ≡ s.owed
owed_again [] s = owed_new (take (s.bound - s.next) s.waiting) s
owed_again (x ∷ xs) s = refl

took_short_by : (o : Option (List ℕ)) (s : Sending) → IfSome s.owed IsShort → IfSome (took_owed o s).owed IsShort
took_short_by None s h = subst (λ o. IfSome o IsShort) (sym (owed_again s.again s)) h
took_short_by (Some report) s h = tt

took_short : (s : Sending) → IfSome s.owed IsShort → IfSome (took s).owed IsShort
unfolding took
took_short s h = took_short_by s.owed s h

-- a call that answers other than that memory ran out shows that it hadn't before
was_alive : (x : Option Next) (b : Bool) → (IsTrue b → IsErr {T = Option Next} {E = NoMemory} (Ok x)) → b ≡ false
was_alive x false h = refl
was_alive x true h = let no : false ≡ true = h refl in cc

refused_not : {A : Type 0} (x : A) (b : Bool) → (IsTrue b → Ok x ≡ Err refusals.NoMemory) → b ≡ false
refused_not x false h = refl
refused_not x true h = let no : Ok x ≡ Err refusals.NoMemory = h refl in cc

dead_owes : (tx : Entity) → IsTrue tx.dead → OwesShort tx
dead_owes tx dead = λ alive. let no : true ≡ false = sym dead ∙ alive in cc

pub submits : {A : Type 0} (old new : Entity) (sdu : List ℕ) (r : Result A SubmitRefusal)
    → OnOk r (new ≡ alive (submitted old.state sdu)) → (IsTrue old.dead → r ≡ Err refusals.NoMemory)
    → IfErr r (λ e. KeepsOrDies e old new) → OwesShort old → OwesShort new
submits old new sdu (Ok x) ok dead err h =
    λ living. subst (λ (t : Entity). IfSome t.state.owed IsShort) (sym ok)
    (subst (λ o. IfSome o IsShort) (sym (owed_submitted old.state sdu)) (h (refused_not x old.dead dead)))
submits old new sdu (Err refusals.Empty) ok dead err h = subst OwesShort (sym err) h
submits old new sdu (Err refusals.TooLong) ok dead err h = subst OwesShort (sym err) h
submits old new sdu (Err refusals.Full) ok dead err h = subst OwesShort (sym err) h
submits old new sdu (Err refusals.CountEnd) ok dead err h = subst OwesShort (sym err) h
submits old new sdu (Err refusals.NoMemory) ok dead err h = dead_owes new err

pub takes : (old new : Entity) (r : Result (Option Next) NoMemory)
    → OnOk r (new ≡ alive (took old.state)) → (IsTrue old.dead → IsErr r) → OnErr r (IsTrue new.dead) → OwesShort old
    → OwesShort new
takes old new (Ok x) ok dead err h =
    λ living. subst (λ (t : Entity). IfSome t.state.owed IsShort) (sym ok)
    (took_short old.state (h (was_alive x old.dead dead)))
takes old new (Err e) ok dead err h = dead_owes new err

pub takes_short : (old : Entity) (r : Result (Option Next) NoMemory)
    → (IfSome old.state.owed IsShort → IfOk r (λ next. IfSome next HasSize)) → (IsTrue old.dead → IsErr r)
    → OwesShort old → IfOk r (λ next. IfSome next HasSize)
takes_short old (Ok x) size dead h = size (h (was_alive x old.dead dead))
takes_short old (Err e) size dead h = tt

pub ruleset taking = (takes, takes_short)

keeps : (old new : Entity) → new.dead ≡ old.dead → new.state.owed ≡ old.state.owed → OwesShort old → OwesShort new
keeps old new dead owed h = λ living. subst (λ o. IfSome o IsShort) (sym owed) (h (sym dead ∙ living))

pub confirms : (tx : Entity) (place : ℕ) → OwesShort tx → OwesShort (record tx { state = confirmed tx.state place })
confirms tx place h = keeps tx (record tx { state = confirmed tx.state place }) refl (owed_confirmed tx.state place) h

pub hears : (tx : Entity) (fms : ℕ) (bitmap : List ℕ) → OwesShort tx
    → OwesShort (record tx { state = reported tx.state fms bitmap })
hears tx fms bitmap h =
    keeps tx (record tx { state = reported tx.state fms bitmap }) refl (owed_reported tx.state fms bitmap) h

pub lates : (tx : Entity) → OwesShort tx → OwesShort (record tx { state = after_late tx.state })
lates tx h = keeps tx (record tx { state = after_late tx.state }) refl (owed_late tx.state) h

pub begins : (s : Sending) (keys : Keys) → OwesShort (alive (restarted s keys))
unfolding restarted
begins s keys = λ living. tt

pub starts : (kind : PdcpKind) (protection : Protection) (first : ℕ) → OwesShort (alive (start kind protection first))
unfolding start
starts kind protection first = λ living. tt
