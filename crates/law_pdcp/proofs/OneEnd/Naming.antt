-- A COUNT names one SDU through all lives.
use Rattle.std.proofs.Common.{◌≡◌, ℕ, suc, zero, ◌+◌, ◌-◌, true, false, List, [], ◌∷◌, ◌++◌, map, length, take, Option}
use Rattle.std.proofs.Common.{Some, None, slice_get, append_assoc, length-append, subst, refl, sym, ◌∙◌, arith, All}
use Rattle.std.proofs.Common.{IsTrue}
use Rattle.std.proofs.lemmas.List.{append-nil}
use Rattle.std.proofs.lemmas.List.Elements.{All-nil, All-cons, All-head, All-tail, All-append, All-push, All-weaker}
use Rattle.eps_sec.specs.declared.Keys.{Keys}
use Rattle.pdcp_pdu.specs.declared.PdcpKind.{PdcpKind}
use Rattle.pdcp_pdu.specs.declared.PdcpKind.TheVariants.{Srb, Um, Am}
use Rattle.pdcp_pdu.specs.Kinds.{is_am}
use Rattle.pdcp_sec.specs.Protection.{Protection}
use Rattle.pdcp_tx_store.specs.declared.given.Sent.{Sent}
use Rattle.pdcp_tx_store.specs.declared.given.Entry.TheVariants.{Data}
use Rattle.pdcp_tx_store.specs.Waiting.{Waits}
use Rattle.pdcp_tx_store.specs.Given.{acked_at, entry_at, heard, untold, trimmed, data_of}
use Rattle.pdcp_tx.specs.State.{State, start, sent, offers, owed_offers, again_offer, new_offers, submitted, took}
use Rattle.pdcp_tx.specs.State.{took_owed, took_again, took_new, confirmed, reported, reported_from, fms_count}
use Rattle.pdcp_tx.specs.State.{after_late, restarted, next_from, kept_again}
use Rattle.pdcp_tx.specs.Runs.{Submit, Take, Confirm, Report, Owe, Tick, Late}
use Rattle.law_pdcp.specs.OneEnd.Lives.{Step, Calls, SetDiscard, Restart, goes, Ciphering, ciphering_of, ciphers}
use Rattle.law_pdcp.specs.OneEnd.Lives.{cipherings, new_behind, new_of, first_sdu, takes_first, first_taken, Names}
use Rattle.law_pdcp.specs.OneEnd.Lives.{AreNamed}
use Rattle.law_pdcp.proofs.OneEnd.Lives.{again_thin}
use Rattle.law_pdcp.proofs.OneEnd.Lists.{thinner, all_left}
use Rattle.law_pdcp.proofs.OneEnd.Thinning.{Named, named, names, of, of_again, of_new, of_own, trims, of_acked, hears}

pub get_more : {A : Type 0} (xs ys : List A) (k : ℕ) (x : A) → slice_get xs k ≡ Some x → slice_get (xs ++ ys) k ≡ Some x
get_more [] ys k x e = let no : None ≡ Some x = e in cc
get_more (y ∷ xs) ys zero x e = e
get_more (y ∷ xs) ys (suc k) x e = get_more xs ys k x e

pub get_behind : {A : Type 0} (xs : List A) (k : ℕ) (x : A) → k ≡ length xs → slice_get (xs ++ x ∷ []) k ≡ Some x
get_behind [] zero x e = refl
get_behind [] (suc k) x e = absurd (omega (arith, e))
get_behind (y ∷ xs) zero x e = absurd (omega (arith, e))
get_behind (y ∷ xs) (suc k) x e = get_behind xs k x (omega (arith, e))

pub more : (first : ℕ) (h g : List (List ℕ)) (count : ℕ) (sdu : List ℕ) → Names first h count sdu
    → Names first (h ++ g) count sdu
more first h g count sdu n = (n.0, get_more h g (count - first) sdu n.1)

abbrev pub Is : ℕ → List (List ℕ) → Named → Type 0
Is first h x = Names first h x.count x.sdu

abbrev pub IsCiphered : ℕ → List (List ℕ) → Ciphering → Type 0
IsCiphered first h c = Names first h c.count c.sdu

-- the SDUs that were taken so far, and what each COUNT of them names
pub record NamesKept (first : ℕ) (h : List (List ℕ)) (s : State) : Type 0 where
  pub am : is_am s.kind ≡ true
  pub next : first + length h ≡ s.next
  pub each : All (Is first h) (of s.given.entries s.again)

-- what a step has to keep, and to name
abbrev pub Goes : ℕ → List (List ℕ) → List (List ℕ) → State → List Ciphering → Type 0
Goes first h g s cs = NamesKept first (h ++ g) s × AreNamed first (h ++ g) cs

none_named : (first : ℕ) (h : List (List ℕ)) → AreNamed first h []
none_named first h = All-nil (IsCiphered first h)

one_named : (first : ℕ) (h : List (List ℕ)) (c : Ciphering) → IsCiphered first h c → AreNamed first h (c ∷ [])
one_named first h c n = All-cons (IsCiphered first h) c [] n (none_named first h)

nothing_new : (first : ℕ) (h : List (List ℕ)) (s : State) (cs : List Ciphering) → NamesKept first h s
    → AreNamed first h cs
    → Goes first h [] s cs
nothing_new first h s cs k n = rw (append-nil h) (k, n)

pub each_behind : (P : Named → Type 0) (ss : List Sent) (x : Sent) (xs : List Sent) → All P (names (ss ++ x ∷ xs))
    → P (named x)
each_behind P [] x xs h = All-head P (named x) (names xs) h
each_behind P (s ∷ ss) x xs h = each_behind P ss x xs (All-tail P (named s) (names (ss ++ x ∷ xs)) h)

new_goes : (first : ℕ) (h : List (List ℕ)) (s : State) (ws : List Waits) → s.again ≡ [] → NamesKept first h s
    → Goes first h (first_sdu ws) (took_new ws s) (ciphering_of s.protection (slice_get (new_offers s.next ws) 0))
new_goes first h s [] a k = nothing_new first h s [] k (none_named first h)
new_goes first h s (w ∷ ws) a k =
    let here : Names first (h ++ w.sdu ∷ []) s.next w.sdu =
    (omega (arith, k.next), get_behind h (s.next - first) w.sdu (omega (arith, k.next))) in
    let old : All (Is first h) (of s.given.entries []) =
    subst (λ l. All (Is first h) (of s.given.entries l)) a k.each in
    let each : All (Is first (h ++ w.sdu ∷ [])) (of (s.given.entries ++ Data (sent s.next w.sdu false) ∷ []) []) =
    subst (All (Is first (h ++ w.sdu ∷ []))) (sym (of_new s.given.entries (sent s.next w.sdu false)))
    (All-push (Is first (h ++ w.sdu ∷ [])) (of s.given.entries []) (named (sent s.next w.sdu false))
    (All-weaker (Is first h) (Is first (h ++ w.sdu ∷ [])) (λ x n. more first h (w.sdu ∷ []) x.count x.sdu n)
    (of s.given.entries []) old) here) in (
      record { am = k.am; next = omega (arith, k.next, length-append h (w.sdu ∷ [])); each = rw (k.am, a) each },
      one_named first (h ++ w.sdu ∷ []) _ here,
    )

again_goes : (first : ℕ) (h : List (List ℕ)) (s : State) (ss : List Sent) → s.again ≡ ss → NamesKept first h s
    → Goes first h (new_behind ss s) (took_again ss s)
    (ciphering_of s.protection
    (slice_get (map again_offer ss ++ new_offers s.next (take (s.bound - s.next) s.waiting)) 0))
again_goes first h s [] a k = new_goes first h s (take (s.bound - s.next) s.waiting) a k
again_goes first h s (x ∷ xs) a k =
    let old : All (Is first h) (of s.given.entries (x ∷ xs)) =
    subst (λ l. All (Is first h) (of s.given.entries l)) a k.each in
    let each : All (Is first h) (of (trimmed (s.given.entries ++ Data x ∷ [])) xs) =
    all_left (Is first h) (of (trimmed (s.given.entries ++ Data x ∷ [])) xs) (of (s.given.entries ++ Data x ∷ []) xs)
    (trims (s.given.entries ++ Data x ∷ []) xs)
    (subst (All (Is first h)) (sym (of_again s.given.entries x xs)) old) in
    nothing_new first h (took_again (x ∷ xs) s)
    (record { protection = s.protection; count = x.count; sdu = x.octets } ∷ [])
    (record { am = k.am; next = k.next; each = each })
    (one_named first h _ (each_behind (Is first h) (data_of s.given.entries) x xs old))

owed_goes : (first : ℕ) (h : List (List ℕ)) (s : State) (o : Option (List ℕ)) → NamesKept first h s
    → Goes first h (new_of o s) (took_owed o s)
    (ciphering_of s.protection
    (slice_get (owed_offers o ++ map again_offer s.again ++ new_offers s.next (take (s.bound - s.next) s.waiting)) 0))
owed_goes first h s None k = again_goes first h s s.again refl k
owed_goes first h s (Some r) k =
    nothing_new first h (took_owed (Some r) s) []
    (record {
      am = k.am;
      next = k.next;
      each = subst (All (Is first h)) (sym (of_own s.given.entries s.again)) k.each;
    }) (none_named first h)

report_goes : (first : ℕ) (h : List (List ℕ)) (s : State) (c : Option ℕ) (bitmap : List ℕ) → NamesKept first h s
    → NamesKept first h (reported_from c s bitmap)
report_goes first h s None bitmap k = k
report_goes first h s (Some c) bitmap k = record {
  am = k.am;
  next = k.next;
  each =
      all_left (Is first h) (of (trimmed (map (heard c bitmap) s.given.entries)) (untold c bitmap s.again))
      (of s.given.entries s.again)
      (thinner (of (trimmed (map (heard c bitmap) s.given.entries)) (untold c bitmap s.again))
      (of (map (heard c bitmap) s.given.entries) (untold c bitmap s.again)) (of s.given.entries s.again)
      (trims (map (heard c bitmap) s.given.entries) (untold c bitmap s.again))
      (hears c bitmap s.given.entries s.again)) k.each;
}

confirm_goes : (first : ℕ) (h : List (List ℕ)) (s : State) (place : ℕ) → NamesKept first h s
    → NamesKept first h (confirmed s place)
unfolding confirmed
confirm_goes first h s place k = record {
  am = k.am;
  next = k.next;
  each =
      all_left (Is first h)
      (of (trimmed (acked_at (entry_at s.given place) s.given.entries (place - s.given.gone))) s.again)
      (of (acked_at (entry_at s.given place) s.given.entries (place - s.given.gone)) s.again)
      (trims (acked_at (entry_at s.given place) s.given.entries (place - s.given.gone)) s.again)
      (subst (All (Is first h)) (sym (of_acked s.given place s.again)) k.each);
}

next_stays : (kind : PdcpKind) (next : ℕ) → is_am kind ≡ true → next_from kind next ≡ next
next_stays Srb next e = let no : false ≡ true = e in cc
next_stays (Um bits) next e = let no : false ≡ true = e in cc
next_stays (Am bits) next e = refl

restart_goes : (first : ℕ) (h : List (List ℕ)) (s : State) (keys : Keys) → NamesKept first h s
    → NamesKept first h (restarted s keys)
unfolding restarted
restart_goes first h s keys k = record {
  am = k.am;
  next = k.next ∙ sym (next_stays s.kind s.next k.am);
  each = all_left (Is first h) (names (kept_again s)) (of s.given.entries s.again) (again_thin s) k.each;
}

pub step : (first : ℕ) (h : List (List ℕ)) (s : State) (x : Step) → NamesKept first h s
    → Goes first h (takes_first s x) (goes s x) (ciphers s x)
unfolding submitted took reported after_late offers
step first h s (Calls (Submit sdu)) k =
    nothing_new first h (submitted s sdu) [] (record { am = k.am; next = k.next; each = k.each }) (none_named first h)
step first h s (Calls Take) k = owed_goes first h s s.owed k
step first h s (Calls (Confirm place)) k =
    nothing_new first h (confirmed s place) [] (confirm_goes first h s place k) (none_named first h)
step first h s (Calls (Report fms bitmap)) k =
    nothing_new first h (reported s fms bitmap) [] (report_goes first h s (fms_count s.kind s.base fms) bitmap k)
    (none_named first h)
step first h s (Calls (Owe report)) k =
    nothing_new first h (goes s (Calls (Owe report))) [] (record { am = k.am; next = k.next; each = k.each })
    (none_named first h)
step first h s (Calls Tick) k =
    nothing_new first h (goes s (Calls Tick)) [] (record { am = k.am; next = k.next; each = k.each })
    (none_named first h)
step first h s (Calls Late) k =
    nothing_new first h (after_late s) [] (record { am = k.am; next = k.next; each = k.each }) (none_named first h)
step first h s (SetDiscard ttis) k =
    nothing_new first h (goes s (SetDiscard ttis)) [] (record { am = k.am; next = k.next; each = k.each })
    (none_named first h)
step first h s (Restart keys) k =
    nothing_new first h (restarted s keys) [] (restart_goes first h s keys k) (none_named first h)

all_named : (first : ℕ) (h : List (List ℕ)) (s : State) (xs : List Step) → NamesKept first h s
    → AreNamed first (h ++ first_taken s xs) (cipherings s xs)
all_named first h s [] k = none_named first (h ++ [])
all_named first h s (x ∷ xs) k =
    let here : Goes first h (takes_first s x) (goes s x) (ciphers s x) = step first h s x k in
    let whole : List (List ℕ) = (h ++ takes_first s x) ++ first_taken (goes s x) xs in
    subst (λ l. AreNamed first l (ciphers s x ++ cipherings (goes s x) xs))
    (append_assoc h (takes_first s x) (first_taken (goes s x) xs))
    (All-append (IsCiphered first whole) (ciphers s x) (cipherings (goes s x) xs)
    (All-weaker (IsCiphered first (h ++ takes_first s x)) (IsCiphered first whole)
    (λ c n. more first (h ++ takes_first s x) (first_taken (goes s x) xs) c.count c.sdu n) (ciphers s x) here.1)
    (all_named first (h ++ takes_first s x) (goes s x) xs here.0))

pub begins : (kind : PdcpKind) (p : Protection) (first : ℕ) → is_am kind ≡ true
    → NamesKept first [] (start kind p first)
unfolding start
begins kind p first am = record { am = am; next = omega arith; each = All-nil (Is first []) }

pub counts_are_named : (kind : PdcpKind) (p : Protection) (first : ℕ) (steps : List Step) → IsTrue (is_am kind)
    → AreNamed first (first_taken (start kind p first) steps) (cipherings (start kind p first) steps)
counts_are_named kind p first steps am = all_named first [] (start kind p first) steps (begins kind p first am)
