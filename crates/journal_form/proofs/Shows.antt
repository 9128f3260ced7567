-- Record by record, the records that show new blocks stand behind these exactly where the checker
-- finds them so.
use Rattle.std.proofs.Common.{◌≡◌, ℕ, true, false, ◌&&◌, List, [], ◌∷◌, ◌++◌, Option, refl, ap, sym}
use Rattle.std.proofs.Common.{◌∙◌, subst, append-nil}
use Rattle.std.specs.Prelude.{if◌then◌else◌}
use Rattle.std.specs.List.{filter, flat_map}
use Rattle.std.proofs.lemmas.Bool.{and_parts, and_from, true≢false}
use Rattle.l2_types.specs.declared.side.Side.TheVariants.{Nb, Ue}
use Rattle.mac_pdu.specs.declared.item.Direction.{Direction}
use Rattle.mac_pdu.specs.declared.item.Direction.TheVariants.{Down, Up}
use Rattle.mac_pdu.specs.Reading.{reading}
use Rattle.bearer_types.specs.declared.event.Event.TheVariants.{Send}
use Rattle.air_record.specs.declared.record.Record.{Record}
use Rattle.air_record.specs.declared.record.Record.TheVariants as records
use Rattle.pdu_show.specs.declared.kinds.Layout.{Layout}
use Rattle.pdu_show.specs.Show.{block_shown}
use Rattle.promises.specs.Records.{is_shown}
use Rattle.promises.specs.RightForm.{is_unshown, with_shown}
use Rattle.journal_form.specs.SameRecords.{same_shown}
use Rattle.journal_form.specs.Checking.{Showing, Checking, goes_on, awaits, shows, shows_by, none_awaited}
use Rattle.journal_form.specs.Checking.{after_record, checked}
use Rattle.journal_form.proofs.SameRecords.{shown_is, shown_same}
use Rattle.promises.proofs.ShownBlocks.{AllShown, block_shows}
use Rattle.journal_form.proofs.Units.{kinds_stay}

no : {A : Type 0} → false ≡ true → A
no e = absurd (true≢false (sym e))

-- ---- what a record is

abbrev pub shown_to : List (Option Layout) → Record → Showing → Showing
shown_to kinds (records.Block direction process true version octets) s = awaits direction kinds octets s
shown_to kinds one s = if is_shown one then shows one s else goes_on s

abbrev pub all_shown_to : List (Option Layout) → List Record → Showing → Showing
all_shown_to kinds [] s = s
all_shown_to kinds (one ∷ told) s = all_shown_to kinds told (shown_to kinds one s)

-- a new block, what shows one, and other records
record Opens (kinds : List (Option Layout)) (one : Record) : Type 0 where
  direction : Direction
  octets : List ℕ
  to : (s : Showing) → shown_to kinds one s ≡ awaits direction kinds octets s
  stands : with_shown kinds one ≡ one ∷ block_shown direction kinds octets
  unshown : is_shown one ≡ false

record Parts (kinds : List (Option Layout)) (one : Record) : Type 0 where
  to : (s : Showing) → shown_to kinds one s ≡ shows one s
  shown : is_shown one ≡ true

record Goes (kinds : List (Option Layout)) (one : Record) : Type 0 where
  to : (s : Showing) → shown_to kinds one s ≡ goes_on s
  stands : with_shown kinds one ≡ one ∷ []
  unshown : is_shown one ≡ false

data Looks (kinds : List (Option Layout)) (one : Record) : Type 0 where
  opening : Opens kinds one → Looks kinds one
  showing : Parts kinds one → Looks kinds one
  going : Goes kinds one → Looks kinds one

part : (kinds : List (Option Layout)) (one : Record) → ((s : Showing) → shown_to kinds one s ≡ shows one s)
    → is_shown one ≡ true → Looks kinds one
part kinds one to e = showing (record { to = to; shown = e })

other : (kinds : List (Option Layout)) (one : Record) → ((s : Showing) → shown_to kinds one s ≡ goes_on s)
    → with_shown kinds one ≡ one ∷ [] → is_shown one ≡ false → Looks kinds one
other kinds one to stands e = going (record { to = to; stands = stands; unshown = e })

looks : (kinds : List (Option Layout)) (one : Record) → Looks kinds one
looks kinds (records.Block direction process true version octets) =
    opening (record { direction = direction; octets = octets; to = λ s. refl; stands = refl; unshown = refl })
looks kinds records.MacFront = part kinds records.MacFront (λ s. refl) refl
looks kinds (records.MacSdu lcid len) = part kinds (records.MacSdu lcid len) (λ s. refl) refl
looks kinds (records.MacPad octets) = part kinds (records.MacPad octets) (λ s. refl) refl
looks kinds (records.MacControl control) = part kinds (records.MacControl control) (λ s. refl) refl
looks kinds (records.RlcTm len) = part kinds (records.RlcTm len) (λ s. refl) refl
looks kinds (records.RlcUm sn fi lens) = part kinds (records.RlcUm sn fi lens) (λ s. refl) refl
looks kinds (records.RlcAm sn poll fi lens) = part kinds (records.RlcAm sn poll fi lens) (λ s. refl) refl
looks kinds (records.RlcSeg sn poll fi last so lens) =
    part kinds (records.RlcSeg sn poll fi last so lens) (λ s. refl) refl
looks kinds (records.RlcStatus ack nacks) = part kinds (records.RlcStatus ack nacks) (λ s. refl) refl
looks kinds (records.PdcpData sn len) = part kinds (records.PdcpData sn len) (λ s. refl) refl
looks kinds (records.PdcpSrb sn len tag) = part kinds (records.PdcpSrb sn len tag) (λ s. refl) refl
looks kinds (records.PdcpReport fms bitmap) = part kinds (records.PdcpReport fms bitmap) (λ s. refl) refl
looks kinds (records.BadMac fault) = part kinds (records.BadMac fault) (λ s. refl) refl
looks kinds (records.BadRlc fault) = part kinds (records.BadRlc fault) (λ s. refl) refl
looks kinds (records.BadPdcp fault) = part kinds (records.BadPdcp fault) (λ s. refl) refl
looks kinds one = other kinds one (λ s. refl) refl refl

showing_is : (one : Record) (c : Checking) → (after_record one c).showing ≡ shown_to c.kinds one c.showing
showing_is (records.Of Nb (Send lcid how sn)) c = refl
showing_is (records.Of Ue (Send lcid how sn)) c = refl
showing_is (records.Block Down process true version octets) c = refl
showing_is (records.Block Up process true version octets) c = refl
showing_is one c = refl

pub all_showing : (told : List Record) (c : Checking)
    → (checked told c).showing ≡ all_shown_to c.kinds told c.showing
all_showing [] c = refl
all_showing (one ∷ told) c =
    all_showing told (after_record one c)
    ∙ ap (λ (k : List (Option Layout)). all_shown_to k told (after_record one c).showing) (kinds_stay one c)
    ∙ ap (all_shown_to c.kinds told) (showing_is one c)

-- ---- the records as they have to stand

abbrev pub Stood : List (Option Layout) → List Record → List Record
Stood kinds told = flat_map (with_shown kinds) (filter is_unshown told)

kept : (kinds : List (Option Layout)) (one : Record) (told : List Record) → is_shown one ≡ false
    → Stood kinds (one ∷ told) ≡ with_shown kinds one ++ Stood kinds told
kept kinds one told e = rw e refl

dropped : (kinds : List (Option Layout)) (one : Record) (told : List Record) → is_shown one ≡ true
    → Stood kinds (one ∷ told) ≡ Stood kinds told
dropped kinds one told e = rw e refl

opened : (kinds : List (Option Layout)) (one : Record) (told : List Record) (h : Opens kinds one)
    → Stood kinds (one ∷ told) ≡ one ∷ (block_shown h.direction kinds h.octets ++ Stood kinds told)
opened kinds one told h = kept kinds one told h.unshown ∙ ap (λ (l : List Record). l ++ Stood kinds told) h.stands

gone : (kinds : List (Option Layout)) (one : Record) (told : List Record) (h : Goes kinds one)
    → Stood kinds (one ∷ told) ≡ one ∷ Stood kinds told
gone kinds one told h = kept kinds one told h.unshown ∙ ap (λ (l : List Record). l ++ Stood kinds told) h.stands

-- ---- once wrong, always so

record Met (one : Record) (s : Showing) : Type 0 where
  first : Record
  more : List Record
  awaited_is : s.awaited ≡ first ∷ more
  first_is : first ≡ one
  was : s.right ≡ true

shows_right : (one : Record) (s : Showing) → (shows one s).right ≡ true → Met one s
shows_right one s e = by s.awaited refl e
  where
    by : (l : List Record) → s.awaited ≡ l → (shows_by one l s.right).right ≡ true → Met one s
    by [] is f = no f
    by (x ∷ xs) is f =
        let p = and_parts s.right (same_shown x one) f in
        record { first = x; more = xs; awaited_is = is; first_is = shown_is x one p.1; was = p.0 }

still : (kinds : List (Option Layout)) (one : Record) (s : Showing) → (shown_to kinds one s).right ≡ true
    → s.right ≡ true
still kinds one s e = by (looks kinds one)
  where
    at : (x : Showing) → shown_to kinds one s ≡ x → x.right ≡ true
    at x is = ap (λ (y : Showing). y.right) (sym is) ∙ e

    by : Looks kinds one → s.right ≡ true
    by (opening h) = (and_parts s.right (none_awaited s.awaited) (at (awaits h.direction kinds h.octets s) (h.to s))).0
    by (showing h) = (shows_right one s (at (shows one s) (h.to s))).was
    by (going h) = (and_parts s.right (none_awaited s.awaited) (at (goes_on s) (h.to s))).0

all_still : (kinds : List (Option Layout)) (told : List Record) (s : Showing)
    → (all_shown_to kinds told s).right ≡ true → s.right ≡ true
all_still kinds [] s e = e
all_still kinds (one ∷ told) s e = still kinds one s (all_still kinds told (shown_to kinds one s) e)

pub was_right : (kinds : List (Option Layout)) (told : List Record) (s : Showing)
    → (goes_on (all_shown_to kinds told s)).right ≡ true → s.right ≡ true
was_right kinds told s e =
    let x = all_shown_to kinds told s in
    all_still kinds told s (and_parts x.right (none_awaited x.awaited) e).0

none_is : (l : List Record) → none_awaited l ≡ true → l ≡ []
none_is [] e = refl
none_is (one ∷ l) e = no e

-- ---- what is found right is so

at_once : (one : Record) (s : Showing) → (s.right && none_awaited s.awaited) ≡ true → (rest : List Record)
    → s.awaited ++ (one ∷ rest) ≡ one ∷ rest
at_once one s f rest =
    ap (λ (l : List Record). l ++ (one ∷ rest)) (none_is s.awaited (and_parts s.right (none_awaited s.awaited) f).1)

sound_step : (kinds : List (Option Layout)) (one : Record) (told : List Record) (s : Showing)
    → ((x : Showing) → (goes_on (all_shown_to kinds told x)).right ≡ true → told ≡ x.awaited ++ Stood kinds told)
    → (goes_on (all_shown_to kinds told (shown_to kinds one s))).right ≡ true → Looks kinds one
    → one ∷ told ≡ s.awaited ++ Stood kinds (one ∷ told)
sound_step kinds one told s next e (opening h) =
    let x = awaits h.direction kinds h.octets s in
    let rest = block_shown h.direction kinds h.octets ++ Stood kinds told in
    let f : (goes_on (all_shown_to kinds told x)).right ≡ true =
    ap (λ (y : Showing). (goes_on (all_shown_to kinds told y)).right) (sym (h.to s)) ∙ e in
    ap (λ (l : List Record). one ∷ l) (next x f)
    ∙ sym (at_once one s (was_right kinds told x f) rest)
    ∙ ap (λ (l : List Record). s.awaited ++ l) (sym (opened kinds one told h))
sound_step kinds one told s next e (showing h) =
    let x = shows one s in
    let f : (goes_on (all_shown_to kinds told x)).right ≡ true =
    ap (λ (y : Showing). (goes_on (all_shown_to kinds told y)).right) (sym (h.to s)) ∙ e in
    let w = shows_right one s (was_right kinds told x f) in
    let after : x.awaited ≡ w.more = ap (λ (l : List Record). (shows_by one l s.right).awaited) w.awaited_is in
    ap (λ (l : List Record). one ∷ l) (next x f ∙ ap (λ (l : List Record). l ++ Stood kinds told) after)
    ∙ ap (λ (y : Record). y ∷ (w.more ++ Stood kinds told)) (sym w.first_is)
    ∙ ap (λ (l : List Record). l ++ Stood kinds told) (sym w.awaited_is)
    ∙ ap (λ (l : List Record). s.awaited ++ l) (sym (dropped kinds one told h.shown))
sound_step kinds one told s next e (going h) =
    let x = goes_on s in
    let f : (goes_on (all_shown_to kinds told x)).right ≡ true =
    ap (λ (y : Showing). (goes_on (all_shown_to kinds told y)).right) (sym (h.to s)) ∙ e in
    ap (λ (l : List Record). one ∷ l) (next x f)
    ∙ sym (at_once one s (was_right kinds told x f) (Stood kinds told))
    ∙ ap (λ (l : List Record). s.awaited ++ l) (sym (gone kinds one told h))

pub sound : (kinds : List (Option Layout)) (told : List Record) (s : Showing)
    → (goes_on (all_shown_to kinds told s)).right ≡ true → told ≡ s.awaited ++ Stood kinds told
sound kinds [] s e =
    sym (append-nil s.awaited ∙ none_is s.awaited (and_parts s.right (none_awaited s.awaited) e).1)
sound kinds (one ∷ told) s e = sound_step kinds one told s (sound kinds told) e (looks kinds one)

-- ---- and what is so is found right

head_same : (x y : Record) (xs ys : List Record) → x ∷ xs ≡ y ∷ ys → x ≡ y
head_same x y xs ys e = cc

tail_same : (x y : Record) (xs ys : List Record) → x ∷ xs ≡ y ∷ ys → xs ≡ ys
tail_same x y xs ys e = cc

first_by : (kinds : List (Option Layout)) (one : Record) (told : List Record) (x : Record) (xs : List Record)
    → (x ∷ xs ≡ Stood kinds told → is_shown x ≡ false) → x ∷ xs ≡ Stood kinds (one ∷ told) → Looks kinds one
    → is_shown x ≡ false
first_by kinds one told x xs next e (opening h) =
    ap is_shown (head_same x one _ _ (e ∙ opened kinds one told h)) ∙ h.unshown
first_by kinds one told x xs next e (showing h) = next (e ∙ dropped kinds one told h.shown)
first_by kinds one told x xs next e (going h) =
    ap is_shown (head_same x one _ _ (e ∙ gone kinds one told h)) ∙ h.unshown

-- the first that has to stand shows nothing
first_unshown : (kinds : List (Option Layout)) (told : List Record) (x : Record) (xs : List Record)
    → x ∷ xs ≡ Stood kinds told → is_shown x ≡ false
first_unshown kinds [] x xs e = absurd (apart e)
  where
    apart : x ∷ xs ≡ [] → ⊥
    apart f = cc
first_unshown kinds (one ∷ told) x xs e =
    first_by kinds one told x xs (first_unshown kinds told x xs) e (looks kinds one)

record Next (one : Record) (told awaited stood : List Record) : Type 0 where
  first : Record
  more : List Record
  awaited_is : awaited ≡ first ∷ more
  first_is : one ≡ first
  told_is : told ≡ more ++ stood

-- nothing is awaited where a record shows nothing
none_left : (one : Record) (told awaited rest : List Record) → is_shown one ≡ false → AllShown awaited
    → one ∷ told ≡ awaited ++ (one ∷ rest) → (none_awaited awaited ≡ true) × (told ≡ rest)
none_left one told [] rest u all e = (refl, tail_same _ _ _ _ e)
none_left one told (x ∷ xs) rest u all e =
    absurd (true≢false (sym all.0 ∙ ap is_shown (sym (head_same _ _ _ _ e)) ∙ u))

awaits_one : (kinds : List (Option Layout)) (one : Record) (told awaited : List Record) → is_shown one ≡ true
    → one ∷ told ≡ awaited ++ Stood kinds told → Next one told awaited (Stood kinds told)
awaits_one kinds one told [] shown e =
    absurd (true≢false (sym shown ∙ first_unshown kinds told one told e))
awaits_one kinds one told (x ∷ xs) shown e = record {
  first = x;
  more = xs;
  awaited_is = refl;
  first_is = head_same _ _ _ _ e;
  told_is = tail_same _ _ _ _ e;
}

complete_step : (kinds : List (Option Layout)) (one : Record) (told : List Record) (s : Showing)
    → ((x : Showing) → x.right ≡ true → AllShown x.awaited → told ≡ x.awaited ++ Stood kinds told
    → (goes_on (all_shown_to kinds told x)).right ≡ true) → s.right ≡ true → AllShown s.awaited
    → one ∷ told ≡ s.awaited ++ Stood kinds (one ∷ told) → Looks kinds one
    → (goes_on (all_shown_to kinds told (shown_to kinds one s))).right ≡ true
complete_step kinds one told s next right all e (opening h) =
    let n = none_left one told s.awaited (block_shown h.direction kinds h.octets ++ Stood kinds told) h.unshown all
    (e ∙ ap (λ (l : List Record). s.awaited ++ l) (opened kinds one told h)) in
    ap (λ (y : Showing). (goes_on (all_shown_to kinds told y)).right) (h.to s)
    ∙ next (awaits h.direction kinds h.octets s) (and_from s.right (none_awaited s.awaited) right n.0)
    (block_shows kinds (reading h.direction h.octets)) n.1
complete_step kinds one told s next right all e (showing h) =
    let n = awaits_one kinds one told s.awaited h.shown
    (e ∙ ap (λ (l : List Record). s.awaited ++ l) (dropped kinds one told h.shown)) in
    let one_shown : same_shown n.first one ≡ true =
    ap (λ (y : Record). same_shown y one) (sym n.first_is) ∙ shown_same one h.shown in
    let is : shows one s ≡ record { awaited = n.more; right = s.right && same_shown n.first one } =
    ap (λ (l : List Record). shows_by one l s.right) n.awaited_is in
    let after : AllShown (n.first ∷ n.more) = subst AllShown n.awaited_is all in
    ap (λ (y : Showing). (goes_on (all_shown_to kinds told y)).right) (h.to s ∙ is)
    ∙ next (record { awaited = n.more; right = s.right && same_shown n.first one })
    (and_from s.right (same_shown n.first one) right one_shown) after.1 n.told_is
complete_step kinds one told s next right all e (going h) =
    let n = none_left one told s.awaited (Stood kinds told) h.unshown all
    (e ∙ ap (λ (l : List Record). s.awaited ++ l) (gone kinds one told h)) in
    ap (λ (y : Showing). (goes_on (all_shown_to kinds told y)).right) (h.to s)
    ∙ next (goes_on s) (and_from s.right (none_awaited s.awaited) right n.0) tt n.1

pub complete : (kinds : List (Option Layout)) (told : List Record) (s : Showing) → s.right ≡ true
    → AllShown s.awaited → told ≡ s.awaited ++ Stood kinds told
    → (goes_on (all_shown_to kinds told s)).right ≡ true
complete kinds [] s right all e =
    and_from s.right (none_awaited s.awaited) right
    (ap none_awaited (sym (append-nil s.awaited) ∙ sym e))
complete kinds (one ∷ told) s right all e =
    complete_step kinds one told s (complete kinds told) right all e (looks kinds one)
