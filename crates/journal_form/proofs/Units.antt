-- A direction's `send` records and new blocks, record by record, are blocks with the PDUs that are
-- named before each exactly where the checker finds them so.
use Rattle.std.proofs.Common.{◌≡◌, ℕ, true, false, List, [], ◌∷◌, ◌++◌, map, Option, refl, ap, sym}
use Rattle.std.proofs.Common.{◌∙◌, subst, append_assoc, append-nil}
use Rattle.std.specs.Prelude.{if◌then◌else◌}
use Rattle.std.specs.List.{filter, All}
use Rattle.std.proofs.lemmas.Bool.{and_parts, and_from, true≢false}
use Rattle.std.proofs.lemmas.List.{map-append}
use Rattle.std.proofs.lemmas.List.Elements.{All-nil, All-cons, All-head, All-tail}
use Rattle.l2_types.specs.declared.event.How.{How}
use Rattle.l2_types.specs.declared.side.Side.{Side}
use Rattle.l2_types.specs.declared.side.Side.TheVariants.{Nb, Ue}
use Rattle.mac_pdu.specs.declared.item.Direction.TheVariants.{Down, Up}
use Rattle.bearer_types.specs.Sides.{is_same, is_same_way, sent_by}
use Rattle.bearer_types.specs.declared.event.Event.TheVariants.{Send}
use Rattle.air_record.specs.declared.record.Record.{Record}
use Rattle.air_record.specs.declared.record.Record.TheVariants as records
use Rattle.pdu_show.specs.declared.kinds.Layout.{Layout}
use Rattle.law_words.specs.Sequences.{many, joined}
use Rattle.promises.specs.Names.{SentPdu}
use Rattle.promises.specs.RightForm.{is_built, send_record, IsBuilt}
use Rattle.journal_form.specs.Tests.{carries}
use Rattle.journal_form.specs.Checking.{Building, Checking, sends, builds, ends, none_sent, after_record, checked}
use Rattle.journal_form.proofs.NewBlocks.{carries_is, carries_back}

-- ---- what a record is to a side

abbrev pub told_to : Side → List (Option Layout) → Record → Building → Building
told_to side kinds (records.Of s (Send lcid how sn)) b =
    if is_same side s then sends (record { lcid = lcid; how = how; sn = sn }) b else b
told_to side kinds (records.Block direction process true version octets) b =
    if is_same_way (sent_by side) direction then builds (sent_by side) kinds octets b else b
told_to side kinds one b = b

abbrev pub all_told : Side → List (Option Layout) → List Record → Building → Building
all_told side kinds [] b = b
all_told side kinds (one ∷ told) b = all_told side kinds told (told_to side kinds one b)

record Sends (side : Side) (kinds : List (Option Layout)) (one : Record) : Type 0 where
  s : SentPdu
  one_is : one ≡ send_record side s
  to : (b : Building) → told_to side kinds one b ≡ sends s b
  built : is_built side one ≡ true

record Builds (side : Side) (kinds : List (Option Layout)) (one : Record) : Type 0 where
  process : ℕ
  version : ℕ
  octets : List ℕ
  one_is : one ≡ records.Block (sent_by side) process true version octets
  to : (b : Building) → told_to side kinds one b ≡ builds (sent_by side) kinds octets b
  built : is_built side one ≡ true

record Rests (side : Side) (kinds : List (Option Layout)) (one : Record) : Type 0 where
  to : (b : Building) → told_to side kinds one b ≡ b
  built : is_built side one ≡ false

data Told (side : Side) (kinds : List (Option Layout)) (one : Record) : Type 0 where
  sending : Sends side kinds one → Told side kinds one
  building : Builds side kinds one → Told side kinds one
  resting : Rests side kinds one → Told side kinds one

sends_it : (side : Side) (kinds : List (Option Layout)) (one : Record) (s : SentPdu) → one ≡ send_record side s
    → ((b : Building) → told_to side kinds one b ≡ sends s b) → is_built side one ≡ true → Told side kinds one
sends_it side kinds one s e to built = sending (record { s = s; one_is = e; to = to; built = built })

rests_it : (side : Side) (kinds : List (Option Layout)) (one : Record)
    → ((b : Building) → told_to side kinds one b ≡ b) → is_built side one ≡ false → Told side kinds one
rests_it side kinds one to built = resting (record { to = to; built = built })

builds_it : (side : Side) (kinds : List (Option Layout)) (one : Record) (process version : ℕ) (octets : List ℕ)
    → one ≡ records.Block (sent_by side) process true version octets
    → ((b : Building) → told_to side kinds one b ≡ builds (sent_by side) kinds octets b) → is_built side one ≡ true
    → Told side kinds one
builds_it side kinds one process version octets e to built = building (record {
  process = process;
  version = version;
  octets = octets;
  one_is = e;
  to = to;
  built = built;
})

told_as : (side : Side) (kinds : List (Option Layout)) (one : Record) → Told side kinds one
told_as Nb kinds (records.Of Nb (Send lcid how sn)) =
    sends_it Nb kinds (records.Of Nb (Send lcid how sn)) (record { lcid = lcid; how = how; sn = sn }) refl
    (λ b. refl) refl
told_as Nb kinds (records.Of Ue (Send lcid how sn)) =
    rests_it Nb kinds (records.Of Ue (Send lcid how sn)) (λ b. refl) refl
told_as Ue kinds (records.Of Nb (Send lcid how sn)) =
    rests_it Ue kinds (records.Of Nb (Send lcid how sn)) (λ b. refl) refl
told_as Ue kinds (records.Of Ue (Send lcid how sn)) =
    sends_it Ue kinds (records.Of Ue (Send lcid how sn)) (record { lcid = lcid; how = how; sn = sn }) refl
    (λ b. refl) refl
told_as Nb kinds (records.Block Down process true version octets) =
    builds_it Nb kinds (records.Block Down process true version octets) process version octets refl (λ b. refl) refl
told_as Nb kinds (records.Block Up process true version octets) =
    rests_it Nb kinds (records.Block Up process true version octets) (λ b. refl) refl
told_as Ue kinds (records.Block Down process true version octets) =
    rests_it Ue kinds (records.Block Down process true version octets) (λ b. refl) refl
told_as Ue kinds (records.Block Up process true version octets) =
    builds_it Ue kinds (records.Block Up process true version octets) process version octets refl (λ b. refl) refl
told_as side kinds one = rests_it side kinds one (λ b. refl) refl

-- ---- the checker's part of a side

pub kinds_stay : (one : Record) (c : Checking) → (after_record one c).kinds ≡ c.kinds
kinds_stay (records.Of Nb (Send lcid how sn)) c = refl
kinds_stay (records.Of Ue (Send lcid how sn)) c = refl
kinds_stay (records.Block Down process true version octets) c = refl
kinds_stay (records.Block Up process true version octets) c = refl
kinds_stay one c = refl

down_is : (one : Record) (c : Checking) → (after_record one c).down ≡ told_to Nb c.kinds one c.down
down_is (records.Of Nb (Send lcid how sn)) c = refl
down_is (records.Of Ue (Send lcid how sn)) c = refl
down_is (records.Block Down process true version octets) c = refl
down_is (records.Block Up process true version octets) c = refl
down_is one c = refl

up_is : (one : Record) (c : Checking) → (after_record one c).up ≡ told_to Ue c.kinds one c.up
up_is (records.Of Nb (Send lcid how sn)) c = refl
up_is (records.Of Ue (Send lcid how sn)) c = refl
up_is (records.Block Down process true version octets) c = refl
up_is (records.Block Up process true version octets) c = refl
up_is one c = refl

pub all_kinds : (told : List Record) (c : Checking) → (checked told c).kinds ≡ c.kinds
all_kinds [] c = refl
all_kinds (one ∷ told) c = all_kinds told (after_record one c) ∙ kinds_stay one c

pub all_down : (told : List Record) (c : Checking) → (checked told c).down ≡ all_told Nb c.kinds told c.down
all_down [] c = refl
all_down (one ∷ told) c =
    all_down told (after_record one c)
    ∙ ap (λ (k : List (Option Layout)). all_told Nb k told (after_record one c).down) (kinds_stay one c)
    ∙ ap (all_told Nb c.kinds told) (down_is one c)

pub all_up : (told : List Record) (c : Checking) → (checked told c).up ≡ all_told Ue c.kinds told c.up
all_up [] c = refl
all_up (one ∷ told) c =
    all_up told (after_record one c)
    ∙ ap (λ (k : List (Option Layout)). all_told Ue k told (after_record one c).up) (kinds_stay one c)
    ∙ ap (all_told Ue c.kinds told) (up_is one c)

-- ---- once wrong, always so

still : (side : Side) (kinds : List (Option Layout)) (one : Record) (b : Building)
    → (told_to side kinds one b).right ≡ true → b.right ≡ true
still side kinds one b e = by (told_as side kinds one)
  where
    by : Told side kinds one → b.right ≡ true
    by (sending h) = ap (λ (x : Building). x.right) (sym (h.to b)) ∙ e
    by (building h) =
        (and_parts b.right (carries (sent_by side) kinds b.sent h.octets)
        (ap (λ (x : Building). x.right) (sym (h.to b)) ∙ e)).0
    by (resting h) = ap (λ (x : Building). x.right) (sym (h.to b)) ∙ e

all_still : (side : Side) (kinds : List (Option Layout)) (told : List Record) (b : Building)
    → (all_told side kinds told b).right ≡ true → b.right ≡ true
all_still side kinds [] b e = e
all_still side kinds (one ∷ told) b e =
    still side kinds one b (all_still side kinds told (told_to side kinds one b) e)

pub was_right : (side : Side) (kinds : List (Option Layout)) (told : List Record) (b : Building)
    → (ends (all_told side kinds told b)).right ≡ true → b.right ≡ true
was_right side kinds told b e =
    let x = all_told side kinds told b in all_still side kinds told b (and_parts x.right (none_sent x.sent) e).0

-- ---- what is found right is so

abbrev pub Form : Side → List (Option Layout) → List Record → Type 0
Form side kinds told = many (IsBuilt side kinds) told

abbrev pub named : Side → List SentPdu → List Record
named side sent = map (send_record side) sent

none_is : (sent : List SentPdu) → none_sent sent ≡ true → sent ≡ []
none_is [] e = refl
none_is (s ∷ sent) e = absurd (true≢false (sym e))

empty_form : (side : Side) (kinds : List (Option Layout)) → Form side kinds []
empty_form side kinds = record { parts = []; told_are = refl; are_each = All-nil (IsBuilt side kinds) }

filtered : (side : Side) (one : Record) (told : List Record) → is_built side one ≡ true
    → filter (is_built side) (one ∷ told) ≡ one ∷ filter (is_built side) told
filtered side one told e = rw e refl

passed : (side : Side) (one : Record) (told : List Record) → is_built side one ≡ false
    → filter (is_built side) (one ∷ told) ≡ filter (is_built side) told
passed side one told e = rw e refl

one_more : (side : Side) (sent : List SentPdu) (s : SentPdu) (told : List Record)
    → named side (sent ++ s ∷ []) ++ told ≡ named side sent ++ (send_record side s ∷ told)
one_more side sent s told =
    ap (λ (l : List Record). l ++ told) (map-append (send_record side) sent (s ∷ []))
    ∙ append_assoc (named side sent) (send_record side s ∷ []) told

-- a block closes what was named before it
closed : (side : Side) (kinds : List (Option Layout)) (sent : List SentPdu) (process version : ℕ) (octets : List ℕ)
    (told : List Record) → carries (sent_by side) kinds sent octets ≡ true → Form side kinds told
    → Form side kinds (named side sent ++ (records.Block (sent_by side) process true version octets ∷ told))
closed side kinds sent process version octets told e f =
    let block = records.Block (sent_by side) process true version octets in
    let part : List Record = named side sent ++ block ∷ [] in
    let built : IsBuilt side kinds part = record {
      sent = sent;
      process = process;
      version = version;
      octets = octets;
      told_is = refl;
      carries = carries_is (sent_by side) kinds sent octets e;
    } in
    record {
      parts = part ∷ f.parts;
      told_are = ap (λ (l : List Record). named side sent ++ (block ∷ l)) f.told_are
          ∙ sym (append_assoc (named side sent) (block ∷ []) (joined f.parts));
      are_each = All-cons (IsBuilt side kinds) part f.parts built f.are_each;
    }

sound_step : (side : Side) (kinds : List (Option Layout)) (one : Record) (told : List Record) (b : Building)
    → ((x : Building) → (ends (all_told side kinds told x)).right ≡ true
    → Form side kinds (named side x.sent ++ filter (is_built side) told))
    → (ends (all_told side kinds told (told_to side kinds one b))).right ≡ true → Told side kinds one
    → Form side kinds (named side b.sent ++ filter (is_built side) (one ∷ told))
sound_step side kinds one told b next e (sending h) =
    subst (Form side kinds)
    (one_more side b.sent h.s (filter (is_built side) told)
    ∙ ap (λ (l : List Record). named side b.sent ++ l)
    (ap (λ (x : Record). x ∷ filter (is_built side) told) (sym h.one_is)
    ∙ sym (filtered side one told h.built)))
    (next (sends h.s b) (ap (λ (y : Building). (ends (all_told side kinds told y)).right) (sym (h.to b)) ∙ e))
sound_step side kinds one told b next e (building h) =
    let x = builds (sent_by side) kinds h.octets b in
    let f : (ends (all_told side kinds told x)).right ≡ true =
    ap (λ (y : Building). (ends (all_told side kinds told y)).right) (sym (h.to b)) ∙ e in
    subst (Form side kinds)
    (ap (λ (l : List Record). named side b.sent ++ l)
    (ap (λ (y : Record). y ∷ filter (is_built side) told) (sym h.one_is)
    ∙ sym (filtered side one told h.built)))
    (closed side kinds b.sent h.process h.version h.octets (filter (is_built side) told)
    (and_parts b.right (carries (sent_by side) kinds b.sent h.octets) (was_right side kinds told x f)).1 (next x f))
sound_step side kinds one told b next e (resting h) =
    subst (λ (l : List Record). Form side kinds (named side b.sent ++ l)) (sym (passed side one told h.built))
    (next b (ap (λ (y : Building). (ends (all_told side kinds told y)).right) (sym (h.to b)) ∙ e))

pub sound : (side : Side) (kinds : List (Option Layout)) (told : List Record) (b : Building)
    → (ends (all_told side kinds told b)).right ≡ true
    → Form side kinds (named side b.sent ++ filter (is_built side) told)
sound side kinds [] b e =
    let none = none_is b.sent (and_parts b.right (none_sent b.sent) e).1 in
    subst (λ (l : List SentPdu). Form side kinds (named side l ++ [])) (sym none) (empty_form side kinds)
sound side kinds (one ∷ told) b e =
    sound_step side kinds one told b (sound side kinds told) e (told_as side kinds one)

-- ---- and what is so is found right

send_same : (side : Side) (x y : SentPdu) → send_record side x ≡ send_record side y → x ≡ y
send_same side x y e = made x.lcid y.lcid x.how y.how x.sn y.sn (cc) (cc) (cc)
  where
    made : (l m : ℕ) (h k : How) (s t : ℕ) → l ≡ m → h ≡ k → s ≡ t
        → ◌≡◌ {A = SentPdu} (record { lcid = l; how = h; sn = s }) (record { lcid = m; how = k; sn = t })
    made l m h k s t a b c = cc

head_same : {X : Type 0} (x y : X) (xs ys : List X) → x ∷ xs ≡ y ∷ ys → x ≡ y
head_same x y xs ys e = cc

tail_same : {X : Type 0} (x y : X) (xs ys : List X) → x ∷ xs ≡ y ∷ ys → xs ≡ ys
tail_same x y xs ys e = cc

record Split (sent others : List SentPdu) (block other : Record) (told more : List Record) : Type 0 where
  sent_are : sent ≡ others
  block_is : block ≡ other
  told_are : told ≡ more

-- the first block stands behind the same
split : (side : Side) (sent others : List SentPdu) (p v q w : ℕ) (octets own : List ℕ) (told more : List Record)
    → named side sent ++ (records.Block (sent_by side) p true v octets ∷ told)
    ≡ (named side others ++ records.Block (sent_by side) q true w own ∷ []) ++ more
    → Split sent others (records.Block (sent_by side) p true v octets) (records.Block (sent_by side) q true w own) told
    more
split side [] [] p v q w octets own told more e = record {
  sent_are = refl;
  block_is = head_same _ _ _ _ e;
  told_are = tail_same _ _ _ _ e;
}
split side [] (y ∷ others) p v q w octets own told more e = absurd (apart (head_same _ _ _ _ e))
  where
    apart : records.Block (sent_by side) p true v octets ≡ send_record side y → ⊥
    apart f = cc
split side (x ∷ sent) [] p v q w octets own told more e = absurd (apart (head_same _ _ _ _ e))
  where
    apart : send_record side x ≡ records.Block (sent_by side) q true w own → ⊥
    apart f = cc
split side (x ∷ sent) (y ∷ others) p v q w octets own told more e =
    let s = split side sent others p v q w octets own told more (tail_same _ _ _ _ e) in
    let same : x ≡ y = send_same side x y (head_same _ _ _ _ e) in
    record {
      sent_are = ap (λ (z : SentPdu). z ∷ sent) same ∙ ap (λ (l : List SentPdu). y ∷ l) s.sent_are;
      block_is = s.block_is;
      told_are = s.told_are;
    }

-- without a block there is none
no_block : (side : Side) (sent others : List SentPdu) (q w : ℕ) (own : List ℕ) (more : List Record)
    → named side sent ≡ (named side others ++ records.Block (sent_by side) q true w own ∷ []) ++ more → ⊥
no_block side [] [] q w own more e = apart _ _ e
  where
    apart : (x : Record) (xs : List Record) → [] ≡ x ∷ xs → ⊥
    apart x xs f = cc
no_block side [] (y ∷ others) q w own more e = apart _ _ e
  where
    apart : (x : Record) (xs : List Record) → [] ≡ x ∷ xs → ⊥
    apart x xs f = cc
no_block side (x ∷ sent) [] q w own more e = apart (head_same _ _ _ _ e)
  where
    apart : send_record side x ≡ records.Block (sent_by side) q true w own → ⊥
    apart f = cc
no_block side (x ∷ sent) (y ∷ others) q w own more e = no_block side sent others q w own more (tail_same _ _ _ _ e)

left_none : (side : Side) (kinds : List (Option Layout)) (sent : List SentPdu) (parts : List (List Record))
    → named side sent ≡ joined parts → All (IsBuilt side kinds) parts → none_sent sent ≡ true
left_none side kinds [] parts e all = refl
left_none side kinds (s ∷ sent) [] e all = absurd (apart e)
  where
    apart : send_record side s ∷ named side sent ≡ [] → ⊥
    apart f = cc
left_none side kinds (s ∷ sent) (part ∷ parts) e all =
    let h = All-head (IsBuilt side kinds) part parts all in
    absurd (no_block side (s ∷ sent) h.sent h.process h.version h.octets (joined parts)
    (e ∙ ap (λ (l : List Record). l ++ joined parts) h.told_is))

record Closed (side : Side) (kinds : List (Option Layout)) (sent : List SentPdu) (octets : List ℕ)
    (told : List Record) : Type 0 where
  carried : carries (sent_by side) kinds sent octets ≡ true
  form : Form side kinds told

block_octets : (side : Side) (p v q w : ℕ) (octets own : List ℕ)
    → records.Block (sent_by side) p true v octets ≡ records.Block (sent_by side) q true w own → octets ≡ own
block_octets side p v q w octets own e = cc

closes : (side : Side) (kinds : List (Option Layout)) (sent : List SentPdu) (p v : ℕ) (octets : List ℕ)
    (told : List Record) (parts : List (List Record))
    → named side sent ++ (records.Block (sent_by side) p true v octets ∷ told) ≡ joined parts
    → All (IsBuilt side kinds) parts → Closed side kinds sent octets told
closes side kinds sent p v octets told [] e all = absurd (apart sent e)
  where
    apart : (l : List SentPdu) → named side l ++ (records.Block (sent_by side) p true v octets ∷ told) ≡ [] → ⊥
    apart [] f = cc
    apart (s ∷ l) f = cc
closes side kinds sent p v octets told (part ∷ parts) e all =
    let h = All-head (IsBuilt side kinds) part parts all in
    let s = split side sent h.sent p v h.process h.version octets h.octets told (joined parts)
    (e ∙ ap (λ (l : List Record). l ++ joined parts) h.told_is) in
    let same = block_octets side p v h.process h.version octets h.octets s.block_is in
    record {
      carried = ap (λ (l : List SentPdu). carries (sent_by side) kinds l octets) s.sent_are
          ∙ ap (carries (sent_by side) kinds h.sent) same
          ∙ carries_back (sent_by side) kinds h.sent h.octets h.carries;
      form = record {
        parts = parts;
        told_are = s.told_are;
        are_each = All-tail (IsBuilt side kinds) part parts all;
      };
    }

complete_step : (side : Side) (kinds : List (Option Layout)) (one : Record) (told : List Record) (b : Building)
    → ((x : Building) → x.right ≡ true → Form side kinds (named side x.sent ++ filter (is_built side) told)
    → (ends (all_told side kinds told x)).right ≡ true) → b.right ≡ true
    → Form side kinds (named side b.sent ++ filter (is_built side) (one ∷ told)) → Told side kinds one
    → (ends (all_told side kinds told (told_to side kinds one b))).right ≡ true
complete_step side kinds one told b next right f (sending h) =
    ap (λ (y : Building). (ends (all_told side kinds told y)).right) (h.to b)
    ∙ next (sends h.s b) right
    (subst (Form side kinds)
    (sym (one_more side b.sent h.s (filter (is_built side) told)
    ∙ ap (λ (l : List Record). named side b.sent ++ l)
    (ap (λ (x : Record). x ∷ filter (is_built side) told) (sym h.one_is)
    ∙ sym (filtered side one told h.built)))) f)
complete_step side kinds one told b next right f (building h) =
    let c = closes side kinds b.sent h.process h.version h.octets (filter (is_built side) told) f.parts
    (ap (λ (l : List Record). named side b.sent ++ l)
    (ap (λ (y : Record). y ∷ filter (is_built side) told) (sym h.one_is)
    ∙ sym (filtered side one told h.built))
    ∙ f.told_are) f.are_each in
    ap (λ (y : Building). (ends (all_told side kinds told y)).right) (h.to b)
    ∙ next (builds (sent_by side) kinds h.octets b)
    (and_from b.right (carries (sent_by side) kinds b.sent h.octets) right c.carried) c.form
complete_step side kinds one told b next right f (resting h) =
    ap (λ (y : Building). (ends (all_told side kinds told y)).right) (h.to b)
    ∙ next b right
    (subst (λ (l : List Record). Form side kinds (named side b.sent ++ l)) (passed side one told h.built) f)

pub complete : (side : Side) (kinds : List (Option Layout)) (told : List Record) (b : Building) → b.right ≡ true
    → Form side kinds (named side b.sent ++ filter (is_built side) told)
    → (ends (all_told side kinds told b)).right ≡ true
complete side kinds [] b right f =
    and_from b.right (none_sent b.sent) right
    (left_none side kinds b.sent f.parts (sym (append-nil (named side b.sent)) ∙ f.told_are) f.are_each)
complete side kinds (one ∷ told) b right f =
    complete_step side kinds one told b (complete side kinds told) right f (told_as side kinds one)
