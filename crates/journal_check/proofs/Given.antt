-- The keys that lines gave, in a set.
use Rattle.std.proofs.Common.{◌≡◌, ℕ, Bool, true, false, not, ◌&&◌, ◌||◌, List, [], ◌∷◌, Ordering, Less, Equal, Greater}
use Rattle.std.proofs.Common.{refl, ap, sym, ◌∙◌}
use Rattle.std.proofs.Math.Bool.{and-true}
use Rattle.std.proofs.lemmas.Map.Text.{is_eq-slice_cmp}
use Rattle.std.proofs.lemmas.Slice.Eq.{bytes_eq-Decides}
use Rattle.std.specs.Cmp.Lexicographic.{slice_cmp}
use Rattle.std.specs.List.{list_any}
use Rattle.std.specs.Ordering.{nat_cmp, is_eq, match_ordering}
use Rattle.std.specs.Str.{bytes_eq}
use Rattle.eps_sec.specs.declared.Key.{Key}
use Rattle.promises.specs.LineRules.{are_new}
use Rattle.journal_check.specs.States.{is_given, with_key, with_keys, are_ungiven}

or-again : (a b : Bool) → (a || b) ≡ (a || (a || b))
or-again true b = refl
or-again false b = refl

or-swap : (a b c : Bool) → (a || (b || c)) ≡ (b || (a || c))
or-swap true true c = refl
or-swap true false c = refl
or-swap false b c = refl

given_by : (o : Ordering) (q k x : List ℕ) (xs more : List (List ℕ)) → slice_cmp nat_cmp k x ≡ o
    → is_given q more ≡ (bytes_eq q k || is_given q xs)
    → is_given q (match_ordering o (k ∷ x ∷ xs) (x ∷ xs) (x ∷ more)) ≡ (bytes_eq q k || is_given q (x ∷ xs))
given_by Less q k x xs more e h = ap (λ b. b || is_given q (x ∷ xs)) (is_eq-slice_cmp q k)
given_by Equal q k x xs more e h =
    let same : k ≡ x = (bytes_eq-Decides k x).0 (sym (is_eq-slice_cmp k x) ∙ ap is_eq e) in
    let test : bytes_eq q k ≡ is_eq (slice_cmp nat_cmp q x) =
    ap (λ (y : List ℕ). bytes_eq q y) same ∙ sym (is_eq-slice_cmp q x) in
    or-again (is_eq (slice_cmp nat_cmp q x)) (is_given q xs)
    ∙ ap (λ b. b || is_given q (x ∷ xs)) (sym test)
given_by Greater q k x xs more e h =
    ap (λ b. is_eq (slice_cmp nat_cmp q x) || b) h
    ∙ or-swap (is_eq (slice_cmp nat_cmp q x)) (bytes_eq q k) (is_given q xs)

key_given : (q k : List ℕ) (given : List (List ℕ)) → is_given q (with_key k given) ≡ (bytes_eq q k || is_given q given)
key_given q k [] = ap (λ b. b || false) (is_eq-slice_cmp q k)
key_given q k (x ∷ xs) = given_by (slice_cmp nat_cmp k x) q k x xs (with_key k xs) refl (key_given q k xs)

-- the keys of a line more
pub keys_given : (q : List ℕ) (user rrc integrity : Key) (given keys : List (List ℕ))
    → is_given q given ≡ list_any (bytes_eq q) keys
    → is_given q (with_keys user rrc integrity given)
    ≡ list_any (bytes_eq q) (user.octets ∷ rrc.octets ∷ integrity.octets ∷ keys)
keys_given q user rrc integrity given keys h =
    let third = key_given q integrity.octets given ∙ ap (λ b. bytes_eq q integrity.octets || b) h in
    let second = key_given q rrc.octets (with_key integrity.octets given)
    ∙ ap (λ b. bytes_eq q rrc.octets || b) third in
    key_given q user.octets (with_key rrc.octets (with_key integrity.octets given))
    ∙ ap (λ b. bytes_eq q user.octets || b) second

-- a line's keys are new
pub ungiven_new : (user rrc integrity : Key) (given keys : List (List ℕ))
    → ((q : List ℕ) → is_given q given ≡ list_any (bytes_eq q) keys)
    → are_ungiven user rrc integrity given ≡ are_new (user.octets ∷ rrc.octets ∷ integrity.octets ∷ []) keys
ungiven_new user rrc integrity given keys h =
    rw (h user.octets, h rrc.octets, h integrity.octets)
    (ap
    (λ b. not (bytes_eq user.octets rrc.octets || (bytes_eq user.octets integrity.octets
    || list_any (bytes_eq user.octets) keys))
    && (not (bytes_eq rrc.octets integrity.octets || list_any (bytes_eq rrc.octets) keys) && b))
    (sym (and-true (not (list_any (bytes_eq integrity.octets) keys)))))
