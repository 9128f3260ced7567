-- Each entry of a log is of one record: an event of an end, a new block of its process, or a block that is got, of the
-- process that its side sent last (TS 36.321 5.3.2, 5.4.2). So records split as their log does.
use Rattle.std.proofs.Common.{◌≡◌, ℕ, Bool, true, false, if◌then◌else◌, Option, List, [], ◌∷◌, ◌++◌, refl, ap}
use Rattle.std.proofs.Common.{append-nil, append_assoc, sym, subst, ◌∙◌}
use Rattle.air_record.specs.declared.record.Arrived.TheVariants.{Got}
use Rattle.air_record.specs.declared.record.Record.{Record}
use Rattle.air_record.specs.declared.record.Record.TheVariants as records
use Rattle.bearer_types.specs.Sides.{other, sender_of, sent_by, heard_by}
use Rattle.bearer_types.specs.declared.event.Event.{Event}
use Rattle.l2_types.specs.declared.side.Side.{Side}
use Rattle.mac_pdu.specs.declared.item.Direction.{Direction}
use Rattle.mac_pdu.specs.declared.item.Direction.TheVariants as directions
use Rattle.promises.specs.Events.{is_of_loop}
use Rattle.promises.specs.Records.{is_got}
use Rattle.law_run.specs.TwoEnds.Logs.{LogEntry, Tells, Builds, Hears, Flight, process_of, flight_behind, logged_at}
use Rattle.law_run.specs.TwoEnds.Logs.{all_tell, logged, flight_in}
use Rattle.law_run.proofs.TwoEnds.Along.{flight_more, logged_more}

-- ---- the record of the first entry

-- a record logs one entry at most
abbrev IsOne : List LogEntry → Type 0
IsOne [] = Unit {0}
IsOne (x ∷ []) = Unit {0}
IsOne (x ∷ y ∷ xs) = ⊥

one_if : (b : Bool) (x : LogEntry) → IsOne (if b then x ∷ [] else [])
one_if true x = tt
one_if false x = tt

one_unless : (b : Bool) (x : LogEntry) → IsOne (if b then [] else x ∷ [])
one_unless true x = tt
one_unless false x = tt

logs_one : (sent : Flight) (one : Record) → IsOne (logged_at sent one)
logs_one sent (records.Of side event) = one_unless (is_of_loop event) (Tells side event)
logs_one sent (records.Block direction process true version octets) = tt
logs_one sent (records.Block direction process false version octets) = tt
logs_one sent (records.Air direction what heard) =
    one_if (is_got what) (Hears (other (sender_of direction)) (process_of (sender_of direction) sent) sent.octets)
logs_one sent one = tt

same_heads : (x y : LogEntry) (xs ys : List LogEntry) → x ∷ xs ≡ y ∷ ys → x ≡ y
same_heads x y xs ys e = cc

same_tails : (x y : LogEntry) (xs ys : List LogEntry) → x ∷ xs ≡ y ∷ ys → xs ≡ ys
same_tails x y xs ys e = cc

-- behind records that log nothing
pub record First (sent : Flight) (told : List Record) (x : LogEntry) (xs : List LogEntry) : Type 0 where
  pub silent : List Record
  pub one : Record
  pub behind : List Record
  pub told_is : told ≡ silent ++ one ∷ behind
  pub silent_logs : logged sent silent ≡ []
  pub one_logs : logged_at (flight_in silent sent) one ≡ x ∷ []
  pub behind_logs : logged (flight_behind one (flight_in silent sent)) behind ≡ xs

pub first_entry : (told : List Record) (sent : Flight) (x : LogEntry) (xs : List LogEntry) → logged sent told ≡ x ∷ xs
    → First sent told x xs
first_entry [] sent x xs e = absurd cc
first_entry (one ∷ told) sent x xs e =
    by (logged_at sent one) refl (logs_one sent one) e (first_entry told (flight_behind one sent) x xs)
  where
    by : (hs : List LogEntry) → logged_at sent one ≡ hs → IsOne hs → hs ++ logged (flight_behind one sent) told ≡ x ∷ xs
        → (logged (flight_behind one sent) told ≡ x ∷ xs → First (flight_behind one sent) told x xs)
        → First sent (one ∷ told) x xs
    by [] is few same rest =
        let r = rest same in
        record {
          silent = one ∷ r.silent;
          one = r.one;
          behind = r.behind;
          told_is = ap (λ (all : List Record). one ∷ all) r.told_is;
          silent_logs = ap (λ (hs : List LogEntry). hs ++ logged (flight_behind one sent) r.silent) is ∙ r.silent_logs;
          one_logs = r.one_logs;
          behind_logs = r.behind_logs;
        }
    by (h ∷ []) is few same rest =
        let log = logged (flight_behind one sent) told in
        record {
          silent = [];
          one = one;
          behind = told;
          told_is = refl;
          silent_logs = refl;
          one_logs = is ∙ ap (λ (y : LogEntry). y ∷ []) (same_heads h x log xs same);
          behind_logs = same_tails h x log xs same;
        }
    by (h ∷ g ∷ hs) is few same rest = absurd few

-- ---- records of one log and then of another

-- those that log nothing stand before the next that does
pub record Splits (sent : Flight) (told : List Record) (xs ys : List LogEntry) : Type 0 where
  pub first : List Record
  pub behind : List Record
  pub told_is : told ≡ first ++ behind
  pub first_logged : logged sent first ≡ xs
  pub behind_logged : logged (flight_in first sent) behind ≡ ys

pub logs_split : (told : List Record) (sent : Flight) (xs ys : List LogEntry) → logged sent told ≡ xs ++ ys
    → Splits sent told xs ys
logs_split told sent [] ys e =
    record { first = []; behind = told; told_is = refl; first_logged = refl; behind_logged = e }
logs_split told sent (x ∷ xs) ys e =
    let f = first_entry told sent x (xs ++ ys) e in
    let s = flight_in f.silent sent in
    let r = logs_split f.behind (flight_behind f.one s) xs ys f.behind_logs in
    let more = f.one ∷ r.first in
    record {
      first = f.silent ++ more;
      behind = r.behind;
      told_is = f.told_is ∙ (ap (λ (all : List Record). f.silent ++ f.one ∷ all) r.told_is
          ∙ sym (append_assoc f.silent more r.behind));
      first_logged = logged_more sent f.silent more
          ∙ (ap (λ (hs : List LogEntry). hs ++ logged s more) f.silent_logs
          ∙ (ap (λ (hs : List LogEntry). hs ++ logged (flight_behind f.one s) r.first) f.one_logs
          ∙ ap (λ (hs : List LogEntry). x ∷ hs) r.first_logged));
      behind_logged = ap (λ (z : Flight). logged z r.behind) (sym (flight_more f.silent more sent)) ∙ r.behind_logged;
    }

-- ---- what the record is

pub record IsTelling (side : Side) (event : Event) (one : Record) : Type 0 where
  pub is : one ≡ records.Of side event
  pub of_end : is_of_loop event ≡ false

pub record IsBuilding (side : Side) (process : ℕ) (octets : List ℕ) (one : Record) : Type 0 where
  pub version : ℕ
  pub is : one ≡ records.Block (sent_by side) process true version octets

pub record IsHearing (sent : Flight) (side : Side) (process : ℕ) (octets : List ℕ) (one : Record) : Type 0 where
  pub heard : Option Bool
  pub is : one ≡ records.Air (heard_by side) Got heard
  pub process_is : process_of (other side) sent ≡ process
  pub octets_are : sent.octets ≡ octets

-- a record that logs one entry, by the entry
abbrev pub IsOf : Flight → LogEntry → Record → Type 0
IsOf sent (Tells side event) one = IsTelling side event one
IsOf sent (Builds side process octets) one = IsBuilding side process octets one
IsOf sent (Hears side process octets) one = IsHearing sent side process octets one

event_is : (sent : Flight) (b : Bool) (side : Side) (event : Event) (x : LogEntry) → is_of_loop event ≡ b
    → (if b then [] else Tells side event ∷ []) ≡ x ∷ [] → IsOf sent x (records.Of side event)
event_is sent true side event x is e = absurd cc
event_is sent false side event x is e =
    subst (λ (y : LogEntry). IsOf sent y (records.Of side event)) (same_heads (Tells side event) x [] [] e)
    (record { is = refl; of_end = is })

block_is : (sent : Flight) (direction : Direction) (process version : ℕ) (octets : List ℕ)
    → IsOf sent (Builds (sender_of direction) process octets) (records.Block direction process true version octets)
block_is sent directions.Down process version octets = record { version = version; is = refl }
block_is sent directions.Up process version octets = record { version = version; is = refl }

got_is : (sent : Flight) (direction : Direction) (heard : Option Bool)
    → IsOf sent (Hears (other (sender_of direction)) (process_of (sender_of direction) sent) sent.octets)
    (records.Air direction Got heard)
got_is sent directions.Down heard = record { heard = heard; is = refl; process_is = refl; octets_are = refl }
got_is sent directions.Up heard = record { heard = heard; is = refl; process_is = refl; octets_are = refl }

pub entry_is : (sent : Flight) (one : Record) (x : LogEntry) → logged_at sent one ≡ x ∷ [] → IsOf sent x one
entry_is sent (records.Of side event) x e = event_is sent (is_of_loop event) side event x refl e
entry_is sent (records.Block direction process true version octets) x e =
    subst (λ (y : LogEntry). IsOf sent y (records.Block direction process true version octets))
    (same_heads (Builds (sender_of direction) process octets) x [] [] e)
    (block_is sent direction process version octets)
entry_is sent (records.Block direction process false version octets) x e = absurd cc
entry_is sent (records.Air direction Got heard) x e =
    subst (λ (y : LogEntry). IsOf sent y (records.Air direction Got heard))
    (same_heads (Hears (other (sender_of direction)) (process_of (sender_of direction) sent) sent.octets) x [] [] e)
    (got_is sent direction heard)
entry_is sent (records.Air direction what heard) x e = absurd cc
entry_is sent one x e = absurd cc

-- ---- the records of a new block: those before it, the block, and some that log nothing

pub record BlockIn (side : Side) (process : ℕ) (octets : List ℕ) (said : List Event) (sent : Flight) (xs : List Record)
    : Type 0 where
  pub first : List Record
  pub version : ℕ
  pub behind : List Record
  pub told_is : xs ≡ first ++ records.Block (sent_by side) process true version octets ∷ behind
  pub first_logs : logged sent first ≡ all_tell side said
  pub block_logs : logged_at (flight_in first sent) (records.Block (sent_by side) process true version octets)
      ≡ Builds side process octets ∷ []
  pub behind_logs
      : logged (flight_in (first ++ records.Block (sent_by side) process true version octets ∷ []) sent) behind ≡ []

pub block_in : (side : Side) (process : ℕ) (octets : List ℕ) (said : List Event) (sent : Flight) (xs : List Record)
    → logged sent xs ≡ all_tell side said ++ Builds side process octets ∷ []
    → BlockIn side process octets said sent xs
block_in side process octets said sent xs log =
    let p = logs_split xs sent (all_tell side said) (Builds side process octets ∷ []) log in
    let f = first_entry p.behind (flight_in p.first sent) (Builds side process octets) [] p.behind_logged in
    let first = p.first ++ f.silent in
    let before = flight_in f.silent (flight_in p.first sent) in
    let same : flight_in first sent ≡ before = sym (flight_more p.first f.silent sent) in
    let b = entry_is before f.one (Builds side process octets) f.one_logs in
    let block = records.Block (sent_by side) process true b.version octets in
    record {
      first = first;
      version = b.version;
      behind = f.behind;
      told_is = p.told_is
          ∙ (ap (λ (zs : List Record). p.first ++ zs)
          (f.told_is ∙ ap (λ (one : Record). f.silent ++ one ∷ f.behind) b.is)
          ∙ sym (append_assoc p.first f.silent (block ∷ f.behind)));
      first_logs = logged_more sent p.first f.silent
          ∙ (ap (λ (hs : List LogEntry). hs ++ logged (flight_in p.first sent) f.silent) p.first_logged
          ∙ (ap (λ (hs : List LogEntry). all_tell side said ++ hs) f.silent_logs ∙ append-nil (all_tell side said)));
      block_logs = ap (λ (z : Flight). logged_at z block) same ∙ ap (logged_at before) (sym b.is) ∙ f.one_logs;
      behind_logs = ap (λ (z : Flight). logged z f.behind)
          (sym (flight_more first (block ∷ []) sent) ∙ ap (flight_behind block) same)
          ∙ (ap (λ (one : Record). logged (flight_behind one before) f.behind) (sym b.is) ∙ f.behind_logs);
    }
