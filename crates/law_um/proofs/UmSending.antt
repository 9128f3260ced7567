-- What a new PDU takes of the SDUs that wait, by their places in the stream.
use Rattle.std.proofs.Common.{◌≡◌, ◌<◌, ◌≤◌, ℕ, ◌+◌, ◌-◌, ◌==◌, Bool, true, false, not, nat_lt, nat_le}
use Rattle.std.proofs.Common.{if◌then◌else◌, List, [], ◌∷◌, ◌++◌, map, take, drop, length, Option, refl, ap, sym}
use Rattle.std.proofs.Common.{subst, ◌∙◌}
use Rattle.std.proofs.Common.{append_assoc, length-append, arith}
use Rattle.std.proofs.lemmas.Bool.Decides.{nat_tests}
use Rattle.std.proofs.lemmas.List.{length-take-le, length-drop, take_all, append-nil}
use Rattle.rlc_queue.specs.NewPdu.{room, may_follow, elements, rest, partial, framing}
use Rattle.rlc_queue.specs.Waiting.{HaveOctets, behind}
use Rattle.rlc_um.specs.Sender.{Sender, head_of, is_held, Gives, IsIdle, IsHeld, IsSmall, pieces}
use Rattle.rlc_um.specs.Sender.{ends_partly, sent}
use Rattle.rlc_am_rx_window.specs.Piece.{octets_in}
use Rattle.um_losses.specs.Pdus.{ends_in}
use Rattle.journal_account.specs.FlowEvents.{FlowEvent, field_sizes}
use Rattle.journal_account.specs.Stream.{sdu_sizes, end_of_all}
use Rattle.journal_flows.specs.UmPdus.{ended_by, place_next}
use Rattle.law_um.specs.UmSending.{waiting_sizes, IsPart, IsUmSenderOf, UmSendersBegin, UmOffersAreTold, shown}
use Rattle.law_um.specs.UmSending.{with_pdu}
use Rattle.law_um.specs.UmSending.{UmPdusAreTold}

abbrev bit : Bool → ℕ
bit b = if b then 1 else 0

-- a PDU of these elements leaves these SDUs, the first of them begun or not; some have ended
record Cut (begun : Bool) (part : ℕ) (sdus taken left : List (List ℕ)) (partly : Bool) : Type 0 where
  ended : List ℕ
  more : ℕ
  sizes : waiting_sizes part sdus ≡ ended ++ waiting_sizes more left
  octets : part + octets_in taken ≡ end_of_all ended + more
  is_part : IsPart more left
  begun_is : partly ≡ nat_lt 0 more
  some : HaveOctets left
  counted : length ended + bit partly ≡ length taken + (if length taken == 0 then bit begun else 0)

none-written : (sdus : List (List ℕ)) → waiting_sizes 0 sdus ≡ map length sdus
none-written [] = refl
none-written (x ∷ xs) = ap (λ (n : ℕ). n ∷ map length xs) (omega arith)

part-none : (sdus : List (List ℕ)) → IsPart 0 sdus
part-none [] = refl
part-none (x ∷ xs) = tt

zero-either : (b : Bool) → ◌≡◌ {A = ℕ} (if b then 0 else 0) 0
zero-either true = refl
zero-either false = refl

some-taken : (x : List ℕ) (xs : List (List ℕ)) (n : ℕ) → (if length (x ∷ xs) == 0 then n else 0) ≡ 0
some-taken x xs n =
    let no : (length (x ∷ xs) == 0) ≡ false = grind (arith, nat_tests) in ap (λ (b : Bool). if b then n else 0) no

-- the last element: its SDU goes on or ends with it
cut-last : (r part : ℕ) (begun b : Bool) (x : List ℕ) (xs : List (List ℕ)) → 0 < r → nat_lt r (length x) ≡ b
    → HaveOctets (x ∷ xs)
    → Cut begun part (x ∷ xs) (take r x ∷ []) (if b then drop r x ∷ xs else xs) b
cut-last r part begun true x xs some e h =
    let more : r < length x = grind (arith, nat_tests, e) in
    let size = length-take-le r x (omega (arith, more)) in
    let rest' = length-drop r x in
    record {
      ended = [];
      more = part + r;
      sizes = ap (λ (n : ℕ). n ∷ map length xs) (omega (arith, more, rest'));
      octets = omega (arith, size);
      is_part = tt;
      begun_is = grind (arith, nat_tests, some);
      some = (omega (arith, more, rest'), h.1);
      counted = refl;
    }
cut-last r part begun false x xs some e h =
    let less : length x ≤ r = grind (arith, nat_tests, e) in
    let size = ap length (take_all r x less) in
    record {
      ended = (part + length x) ∷ [];
      more = 0;
      sizes = ap (λ (l : List ℕ). (part + length x) ∷ l) (sym (none-written xs));
      octets = omega (arith, size);
      is_part = part-none xs;
      begun_is = refl;
      some = h.1;
      counted = refl;
    }

-- none is taken
cut-none : (begun : Bool) (part : ℕ) (sdus : List (List ℕ)) → IsPart part sdus → begun ≡ nat_lt 0 part
    → HaveOctets sdus → Cut begun part sdus [] sdus begun
cut-none begun part sdus p b h = record {
  ended = [];
  more = part;
  sizes = refl;
  octets = omega arith;
  is_part = p;
  begun_is = b;
  some = h;
  counted = omega arith;
}

-- the next element, behind which come others or none
cut-next : (r part : ℕ) (begun : Bool) (x : List ℕ) (xs taken left : List (List ℕ)) (partly none follow : Bool)
    → (r == 0) ≡ none → may_follow r x ≡ follow → begun ≡ nat_lt 0 part → HaveOctets (x ∷ xs)
    → Cut false 0 xs taken left partly
    → Cut begun part (x ∷ xs) (if none then [] else take r x ∷ (if follow then taken else []))
    (if none then x ∷ xs else if follow then left else behind r (x ∷ xs))
    (if none then begun else if follow then partly else nat_lt r (length x))
cut-next r part begun x xs taken left partly true follow e f b h c = cut-none begun part (x ∷ xs) tt b h
cut-next r part begun x xs taken left partly false true e f b h c =
    let less : length x ≤ r = grind (arith, nat_tests, f) in
    let size = ap length (take_all r x less) in
    let octets = c.octets in
    let counted = c.counted in
    record {
      ended = (part + length x) ∷ c.ended;
      more = c.more;
      sizes = ap (λ (l : List ℕ). (part + length x) ∷ l) (sym (none-written xs) ∙ c.sizes);
      octets = omega (arith, size, octets);
      is_part = c.is_part;
      begun_is = c.begun_is;
      some = c.some;
      counted = omega (arith, counted, zero-either (length taken == 0), some-taken (take r x) taken (bit begun));
    }
cut-next r part begun x xs taken left partly false false e f b h c =
    cut-last r part begun (nat_lt r (length x)) x xs (grind (arith, nat_tests, e)) refl h

cut : (head size count used part : ℕ) (begun : Bool) (sdus : List (List ℕ)) → IsPart part sdus
    → begun ≡ nat_lt 0 part → HaveOctets sdus
    → Cut begun part sdus (elements head size count used sdus) (rest head size count used sdus)
    (partial head size count used begun sdus)
cut head size count used part begun [] p b h = cut-none begun part [] p b h
cut head size count used part begun (x ∷ xs) p b h =
    cut-next (room head size count used) part begun x xs
    (elements head size (count + 1) (used + length x) xs)
    (rest head size (count + 1) (used + length x) xs)
    (partial head size (count + 1) (used + length x) false xs)
    (room head size count used == 0) (may_follow (room head size count used) x) refl refl b h
    (cut head size (count + 1) (used + length x) 0 false xs (part-none xs) refl h.1)

-- ---- the place of what is written next

all-joined : (xs ys : List ℕ) → end_of_all (xs ++ ys) ≡ end_of_all xs + end_of_all ys
all-joined [] ys = omega arith
all-joined (x ∷ xs) ys = let h = all-joined xs ys in omega (arith, h)

place-waiting : (part : ℕ) (sdus : List (List ℕ)) → HaveOctets sdus
    → ended_by part (waiting_sizes part sdus) ≡ 0
place-waiting part [] h = refl
place-waiting part (x ∷ xs) h =
    let some = h.0 in
    let no : nat_le (part + length x) part ≡ false = grind (arith, nat_tests, some) in
    ap (λ (b : Bool). if b then ended_by (part - (part + length x)) (map length xs) + 1 else 0) no

place-ended : (ended : List ℕ) (part : ℕ) (sdus : List (List ℕ)) → HaveOctets sdus
    → ended_by (end_of_all ended + part) (ended ++ waiting_sizes part sdus) ≡ length ended
place-ended [] part sdus h =
    ap (λ (n : ℕ). ended_by n (waiting_sizes part sdus)) (omega arith) ∙ place-waiting part sdus h
place-ended (x ∷ xs) part sdus h =
    let yes : nat_le x (end_of_all (x ∷ xs) + part) ≡ true = grind (arith, nat_tests) in
    let less : end_of_all (x ∷ xs) + part - x ≡ end_of_all xs + part = omega arith in
    ap (λ (b : Bool). if b
    then ended_by (end_of_all (x ∷ xs) + part - x) (xs ++ waiting_sizes part sdus) + 1 else 0) yes
    ∙ ap (λ (n : ℕ). ended_by n (xs ++ waiting_sizes part sdus) + 1) less
    ∙ (ap (λ (n : ℕ). n + 1) (place-ended xs part sdus h) ∙ omega arith)

place-told : (es : List FlowEvent) (s : Sender) (h : IsUmSenderOf es s) → place_next es ≡ length h.ended
place-told es s h =
    ap (λ (n : ℕ). ended_by n (sdu_sizes es)) h.written
    ∙ ap (λ (l : List ℕ). ended_by (end_of_all h.ended + h.part) l) h.sizes
    ∙ place-ended h.ended h.part s.waiting.sdus h.some

-- ---- the laws

pub um_senders_begin : UmSendersBegin
um_senders_begin bits = record {
  next = refl;
  ended = [];
  part = 0;
  sizes = refl;
  written = refl;
  is_part = refl;
  begun = refl;
  some = tt;
}

one-more-waits : (part : ℕ) (sdus : List (List ℕ)) (sdu : List ℕ) → IsPart part sdus
    → waiting_sizes part (sdus ++ sdu ∷ []) ≡ waiting_sizes part sdus ++ length sdu ∷ []
one-more-waits part [] sdu p = ap (λ (n : ℕ). n ∷ []) (omega (arith, p))
one-more-waits part (x ∷ xs) sdu p = ap (λ (l : List ℕ). (part + length x) ∷ l) (pushed xs)
  where
    pushed : (xs : List (List ℕ)) → map length (xs ++ sdu ∷ []) ≡ map length xs ++ length sdu ∷ []
    pushed [] = refl
    pushed (y ∷ ys) = ap (λ (l : List ℕ). length y ∷ l) (pushed ys)

part-stays : (part : ℕ) (sdus : List (List ℕ)) (sdu : List ℕ) → IsPart part (sdus ++ sdu ∷ [])
part-stays part [] sdu = tt
part-stays part (x ∷ xs) sdu = tt

octets-pushed : (sdus : List (List ℕ)) (sdu : List ℕ) → HaveOctets sdus → 0 < length sdu
    → HaveOctets (sdus ++ sdu ∷ [])
octets-pushed [] sdu h some = (some, tt)
octets-pushed (x ∷ xs) sdu h some = (h.0, octets-pushed xs sdu h.1 some)

pub um_offers_are_told : UmOffersAreTold
um_offers_are_told es s sdu some h = record {
  next = h.next ∙ ap length (sym (append-nil (field_sizes es)));
  ended = h.ended;
  part = h.part;
  sizes = ap (λ (l : List ℕ). l ++ length sdu ∷ []) h.sizes
      ∙ append_assoc h.ended (waiting_sizes h.part s.waiting.sdus) (length sdu ∷ [])
      ∙ ap (λ (l : List ℕ). h.ended ++ l) (sym (one-more-waits h.part s.waiting.sdus sdu h.is_part));
  written = ap end_of_all (append-nil (field_sizes es)) ∙ h.written;
  is_part = part-stays h.part s.waiting.sdus sdu;
  begun = h.begun;
  some = octets-pushed s.waiting.sdus sdu h.some some;
}

-- a PDU that is given has an element
gives-room : (s : Sender) (size : ℕ) (held : Option ℕ) (none low small : Bool)
    → (length s.waiting.sdus == 0) ≡ none → nat_lt size (head_of s.bits + 1) ≡ small
    → (if none then IsIdle else if low then IsHeld else if small then IsSmall else Gives) ≡ Gives
    → (0 < length s.waiting.sdus) × (head_of s.bits < size)
gives-room s size held true low small e f g = absurd cc
gives-room s size held false true small e f g = absurd cc
gives-room s size held false false true e f g = absurd cc
gives-room s size held false false false e f g = (grind (arith, nat_tests, e), grind (arith, nat_tests, f))

has-element : (head size : ℕ) (sdus : List (List ℕ)) → 0 < length sdus → head < size
    → 0 < length (elements head size 0 0 sdus)
has-element head size [] some fits = absurd (omega (arith, some))
has-element head size (x ∷ xs) some fits =
    let no : (room head size 0 0 == 0) ≡ false = grind (arith, nat_tests, fits) in
    subst (λ (b : Bool). 0 < length (if b then [] else take (room head size 0 0) x
    ∷ (if may_follow (room head size 0 0) x then elements head size 1 (0 + length x) xs else []))) (sym no)
    (omega arith)

-- the SDUs that end in it
ends-shown : (b partly : Bool) (sn n : ℕ)
    → ends_in (record { sn = sn; fi = framing b (not partly); elements = n }) + bit partly ≡ n - bit partly + bit partly
ends-shown true true sn n = refl
ends-shown true false sn n = refl
ends-shown false true sn n = refl
ends-shown false false sn n = refl

pub um_pdus_are_told : UmPdusAreTold
um_pdus_are_told es s size held gives h =
    let head = head_of s.bits in
    let c = cut head size 0 0 h.part s.waiting.begun s.waiting.sdus h.is_part h.begun h.some in
    let fits = gives-room s size held (length s.waiting.sdus == 0) (is_held held s) (nat_lt size (head + 1)) refl refl
    gives in
    let some = has-element head size s.waiting.sdus fits.0 fits.1 in
    let octets = c.octets in
    let before = h.written in
    let behind' : IsUmSenderOf (with_pdu s size es) (sent s size) = record {
      next = ap (λ (n : ℕ). n + 1) h.next ∙ sym (length-append (field_sizes es) (octets_in (pieces s size) ∷ []));
      ended = h.ended ++ c.ended;
      part = c.more;
      sizes = append-nil (sdu_sizes es) ∙ h.sizes ∙ ap (λ (l : List ℕ). h.ended ++ l) c.sizes
          ∙ sym (append_assoc h.ended c.ended (waiting_sizes c.more (sent s size).waiting.sdus));
      written = all-joined (field_sizes es) (octets_in (pieces s size) ∷ [])
          ∙ omega (arith, octets, before, all-joined h.ended c.ended);
      is_part = c.is_part;
      begun = c.begun_is;
      some = c.some;
    } in
    let counted = c.counted in
    let there : (length (pieces s size) == 0) ≡ false = grind (arith, nat_tests, some) in
    let whole : (if length (pieces s size) == 0 then bit s.waiting.begun else 0) ≡ 0 =
    ap (λ (b : Bool). if b then bit s.waiting.begun else 0) there in
    let ends = ends-shown (not s.waiting.begun) (ends_partly s size) (shown s size).sn (length (pieces s size)) in
    record {
      behind = behind';
      place = place-told (with_pdu s size es) (sent s size) behind'
          ∙ length-append h.ended c.ended
          ∙ omega (arith, counted, whole, ends, place-told es s h);
    }
