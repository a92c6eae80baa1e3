-- Lists of dependents: which numbers stand in them.
use Rattle.std.proofs.Common.{◌≡◌, ◌≢◌, ◌<◌, ◌≤◌, ◌+◌, ◌==◌, ◌∙◌, ℕ, Bool, true, false, List, length, take, slice_index_or, refl, sym, ap, subst, arith, eqb-true}
use Rattle.std.specs.List.{AllPairs, Contains}
use Rattle.std.proofs.lemmas.List.Folds.{Any-from_list_any, list_any_at}
use Rattle.std.proofs.lemmas.List.{take_more, take_all, get_or_default}
use Rattle.std.proofs.lemmas.List.Quantifiers.{all_pairs_push}
use Rattle.dz_rank.specs.Rankings.{stands_in, IsRepeatFree, HasAllBelow, IsFirstRepeat, IsLeastMissing}

-- a number that passes the test of a list stands in it
pub stands_contains : (us : List ℕ) (u : ℕ) → stands_in u us ≡ true → Contains us u
stands_contains us u e =
    let a = Any-from_list_any (λ v. v == u) us e in
    (a.0, a.2, subst (λ w. slice_index_or us a.0 w ≡ w) (eqb-true a.1 u a.4) a.3)

itself : (u : ℕ) → (u == u) ≡ true
itself u = grind arith

pub absent : (us : List ℕ) (u : ℕ) → stands_in u us ≡ false → Contains us u → ⊥
absent us u e c =
    let found : stands_in u us ≡ true = list_any_at (λ v. v == u) us c.0 u c.1 (ap (λ v. v == u) c.2 ∙ itself u) in
    cc

pub none_apart : (us : List ℕ) → IsRepeatFree (take 0 us)
none_apart us = record { apart = λ i j d g h. absurd (omega arith) }

-- one number more that does not stand before
pub apart_more : (us : List ℕ) (i : ℕ) → i < length us → IsRepeatFree (take i us) → stands_in (slice_index_or us i 0) (take i us) ≡ false → IsRepeatFree (take (i + 1) us)
apart_more us i h p e = record { apart = subst (AllPairs (λ v w. v ≢ w)) (sym (take_more us i 0 h)) (all_pairs_push (λ v w. v ≢ w) (take i us) (slice_index_or us i 0) p.apart (λ k d g s. absent (take i us) (slice_index_or us i 0) e (k, g, get_or_default (take i us) k (slice_index_or us i 0) d g ∙ s))) }

pub all_apart : (us : List ℕ) (i : ℕ) → length us ≤ i → IsRepeatFree (take i us) → IsRepeatFree us
all_apart us i h p = subst IsRepeatFree (take_all i us h) p

pub first_repeat : (us : List ℕ) (i : ℕ) → i < length us → IsRepeatFree (take i us) → stands_in (slice_index_or us i 0) (take i us) ≡ true → IsFirstRepeat us (slice_index_or us i 0)
first_repeat us i h p e = record { at = i; inside = h; is = refl; once = p; stands = stands_contains (take i us) (slice_index_or us i 0) e }

pub none_below : (us : List ℕ) → HasAllBelow 0 us
none_below us = record { each = λ u h. absurd (omega arith) }

pub one_more_below : (us : List ℕ) (n : ℕ) → HasAllBelow n us → stands_in n us ≡ true → HasAllBelow (n + 1) us
one_more_below us n p e = record { each = λ u h. by_test u h (u == n) refl }
  where
    by_test : (u : ℕ) → u < n + 1 → (b : Bool) → (u == n) ≡ b → Contains us u
    by_test u h true f = subst (Contains us) (sym (eqb-true u n f)) (stands_contains us n e)
    by_test u h false f = p.each u (grind arith)

pub all_below : (us : List ℕ) (m n : ℕ) → n ≤ m → HasAllBelow m us → HasAllBelow n us
all_below us m n h p = record { each = λ u g. p.each u (omega arith) }

pub least_missing : (us : List ℕ) (u n : ℕ) → u < n → HasAllBelow u us → stands_in u us ≡ false → IsLeastMissing n us u
least_missing us u n h p e = record { below = h; missing = absent us u e; smaller = p }
