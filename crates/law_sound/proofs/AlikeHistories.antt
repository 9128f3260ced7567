-- Which STATUS PDUs are true and which are ignored is the same whatever a history says of SDUs as
-- t-PollRetransmit expires, and so are VT(S) and VR(R).
use Rattle.std.proofs.Common.{◌≡◌, ℕ, ◌+◌, Bool, false, ◌||◌, List, [], ◌∷◌, ◌++◌, map, take, max, length, refl, ap}
use Rattle.std.proofs.Common.{sym, ◌∙◌, subst, if◌then◌else◌}
use Rattle.std.proofs.Math.Path.{fun_ext}
use Rattle.std.specs.Prelude.{slice_get}
use Rattle.l2_num.specs.Least.{IsLeast, past}
use Rattle.journal_account.specs.declared.entry.StatusEntry.{StatusEntry}
use Rattle.journal_account.specs.FlowEvents.{FlowEvent, SduTaken, PollExpired, StatusHeard, ReorderStarted}
use Rattle.journal_account.specs.FlowEvents.{ReorderExpired, size_in, field_sizes, next_of}
use Rattle.journal_account.specs.Acked.{acks, is_acked, is_ignored, ignored_in}
use Rattle.journal_account.specs.Arrived.{brings_octet, octet_came, all_octets, is_complete_in, number_above, top_in}
use Rattle.journal_account.specs.Arrived.{mark_in, expired_mark}
use Rattle.journal_account.specs.Entries.{names_number}
use Rattle.journal_account.specs.TrueStatus.{AreMissing, AreSaid, IsTrueStatus}
use Rattle.journal_lives.specs.LifeEvents.{LifeEvent, PduGiven, InLife, LifeEnded, running}
use Rattle.law_sound.specs.AlikeLaws.{without_flag, life_without_flag, AreAlike, AlikeLivesRunAlike}
use Rattle.law_sound.specs.AlikeLaws.{AlikeHistoriesTellAlike}

-- ---- of one history

sizes_same : (es : List FlowEvent) → field_sizes (map without_flag es) ≡ field_sizes es
sizes_same [] = refl
sizes_same (PollExpired more ∷ es) = ap (λ (sizes : List ℕ). sizes ++ []) (sizes_same es)
sizes_same (e ∷ es) = ap (λ (sizes : List ℕ). sizes ++ size_in e) (sizes_same es)

octet_same : (es : List FlowEvent) (n i : ℕ) → octet_came (map without_flag es) n i ≡ octet_came es n i
octet_same [] n i = refl
octet_same (PollExpired more ∷ es) n i = octet_same es n i
octet_same (e ∷ es) n i = ap (λ (b : Bool). brings_octet e n i || b) (octet_same es n i)

complete_same : (es : List FlowEvent) → is_complete_in (map without_flag es) ≡ is_complete_in es
complete_same es = fun_ext (λ (n : ℕ).
    ap (λ (came : ℕ → Bool). all_octets came (slice_get (field_sizes (map without_flag es)) n))
    (fun_ext (λ (i : ℕ). octet_same es n i))
    ∙ ap (λ (sizes : List ℕ). all_octets (octet_came es n) (slice_get sizes n)) (sizes_same es))

top_same : (es : List FlowEvent) → top_in (map without_flag es) ≡ top_in es
top_same [] = refl
top_same (PollExpired more ∷ es) = ap (λ (top : ℕ). max top 0) (top_same es)
top_same (e ∷ es) = ap (λ (top : ℕ). max top (number_above e)) (top_same es)

mark_same : (es : List FlowEvent) → mark_in (map without_flag es) ≡ mark_in es
mark_same [] = refl
mark_same (ReorderStarted ∷ es) = top_same es
mark_same (e ∷ es) = mark_same es

expired_same : (es : List FlowEvent) → expired_mark (map without_flag es) ≡ expired_mark es
expired_same [] = refl
expired_same (ReorderExpired ∷ es) =
    ap (λ (mark : ℕ). max mark (mark_in (map without_flag es))) (expired_same es)
    ∙ ap (λ (mark : ℕ). max (expired_mark es) mark) (mark_same es)
expired_same (e ∷ es) = expired_same es

acked_same : (es : List FlowEvent) → is_acked (map without_flag es) ≡ is_acked es
acked_same [] = refl
acked_same (StatusHeard ack entries ∷ es) =
    fun_ext (λ (n : ℕ). ap (λ (acked : ℕ → Bool). acked n || acks (StatusHeard ack entries) acked n) (acked_same es))
acked_same (e ∷ es) = fun_ext (λ (n : ℕ). ap (λ (acked : ℕ → Bool). acked n || false) (acked_same es))

ignored_same : (es : List FlowEvent) → ignored_in (map without_flag es) ≡ ignored_in es
ignored_same [] = refl
ignored_same (StatusHeard ack entries ∷ es) =
    ap (λ (acked : ℕ → Bool). if is_ignored (StatusHeard ack entries) acked
    then ignored_in (map without_flag es) + 1 else ignored_in (map without_flag es)) (acked_same es)
    ∙ ap (λ (ignored : ℕ). if is_ignored (StatusHeard ack entries) (is_acked es) then ignored + 1 else ignored)
    (ignored_same es)
ignored_same (e ∷ es) = ignored_same es

-- ---- of two that are alike

alike_by : (A : Type 0) (of_history : List FlowEvent → A)
    → ((es : List FlowEvent) → of_history (map without_flag es) ≡ of_history es)
    → (es fs : List FlowEvent) → AreAlike es fs → of_history es ≡ of_history fs
alike_by A of_history same es fs a = sym (same es) ∙ ap of_history a ∙ same fs

alike_sizes : (es fs : List FlowEvent) → AreAlike es fs → field_sizes es ≡ field_sizes fs
alike_sizes es fs a = alike_by (List ℕ) field_sizes sizes_same es fs a

alike_complete : (es fs : List FlowEvent) → AreAlike es fs → is_complete_in es ≡ is_complete_in fs
alike_complete es fs a = alike_by (ℕ → Bool) is_complete_in complete_same es fs a

pub alike_acked : (es fs : List FlowEvent) → AreAlike es fs → is_acked es ≡ is_acked fs
alike_acked es fs a = alike_by (ℕ → Bool) is_acked acked_same es fs a

alike_said : (es fs : List FlowEvent) → AreAlike es fs → (n : ℕ) (sizes : List ℕ) (entries : List StatusEntry)
    → AreSaid es n sizes entries → AreSaid fs n sizes entries
alike_said es fs a n [] entries h = h
alike_said es fs a n (size ∷ sizes) entries (runs, rest, missing, said, others) =
    let came = alike_by (ℕ → Bool) (λ (xs : List FlowEvent). octet_came xs n)
    (λ (xs : List FlowEvent). fun_ext (λ (i : ℕ). octet_same xs n i)) es fs a in (
      runs,
      rest,
      subst (λ (p : ℕ → Bool). AreMissing p size runs) came missing,
      said,
      alike_said es fs a (n + 1) sizes rest others,
    )

alike_true : (es fs : List FlowEvent) → AreAlike es fs → (ack : ℕ) (entries : List StatusEntry)
    → IsTrueStatus es ack entries → IsTrueStatus fs ack entries
alike_true es fs a ack entries h = record {
  bound = h.bound;
  bound_is =
      subst (λ (p : ℕ → Bool). IsLeast p (expired_mark fs) h.bound) (alike_complete es fs a)
      (subst (λ (mark : ℕ). IsLeast (is_complete_in es) mark h.bound) (alike_by ℕ expired_mark expired_same es fs a)
      h.bound_is);
  rest = h.rest;
  said =
      subst (λ (sizes : List ℕ). AreSaid fs 0 (take h.bound sizes) (entries ++ h.rest)) (alike_sizes es fs a)
      (alike_said es fs a 0 (take h.bound (field_sizes es)) (entries ++ h.rest) h.said);
  ack_is =
      subst (λ (p : ℕ → Bool). IsLeast (λ n. p n || names_number entries n) 0 ack) (alike_complete es fs a) h.ack_is;
}

pub alike_histories : AlikeHistoriesTellAlike
alike_histories es fs a = record {
  next = ap (λ (sizes : List ℕ). length sizes) (alike_sizes es fs a);
  front =
      ap (λ (p : ℕ → Bool). past p (next_of es) 0) (alike_complete es fs a)
      ∙ ap (λ (sizes : List ℕ). past (is_complete_in fs) (length sizes) 0) (alike_sizes es fs a);
  ignored = alike_by ℕ ignored_in ignored_same es fs a;
  statuses = alike_true es fs a;
}

-- ---- the life that runs

running_same : (es : List LifeEvent) → map without_flag (running es) ≡ running (map life_without_flag es)
running_same [] = refl
running_same (PduGiven count size ∷ es) = ap (λ (xs : List FlowEvent). SduTaken size ∷ xs) (running_same es)
running_same (InLife e ∷ es) = ap (λ (xs : List FlowEvent). without_flag e ∷ xs) (running_same es)
running_same (LifeEnded ∷ es) = refl

pub alike_lives : AlikeLivesRunAlike
alike_lives es fs a = running_same es ∙ ap (λ (xs : List LifeEvent). running xs) a ∙ sym (running_same fs)
