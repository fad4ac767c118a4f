use Rattle.std.proofs.lemmas.Bool.Decides.{nat_tests}
use Rattle.std.proofs.Common.{arith, ◌≡◌, ◌∙◌, None, ap, codes, false, map, refl, string_bytes, sym}
use Rattle.std.specs.Str.{bytes_eq}
use Rattle.std.proofs.lemmas.Slice.Eq.{bytes_eq-Decides}
use Rattle.clap.specs.Words.{Text}
use Rattle.pfs_words.specs.Commands.{Names, form_of}
use Rattle.pfs_words.proofs.JobLemmas.{rejected, some_names}
use Rattle.pfs_words.proofs.planning.plan.Goals as goal

is_other : {word name : Text} → (word ≡ name → ⊥) → bytes_eq word name ≡ false
is_other {word} {name} other = grind (arith, nat_tests, bytes_eq-Decides)

-- a text that is not the name of a command has no form
none_named : (names : Names) (word : Text) → (word ≡ codes "value" → ⊥) → (word ≡ codes "solve" → ⊥)
    → (word ≡ codes "check" → ⊥) → (word ≡ codes "table" → ⊥) → (word ≡ codes "convert" → ⊥)
    → (word ≡ codes "generate" → ⊥) → form_of names word ≡ None
none_named names word a b c d e f = rw (is_other a, is_other b, is_other c, is_other d, is_other e, is_other f)

pub returns-in_default-as_str-clause-usage : goal.returns-in_default-as_str-clause-usage
returns-in_default-as_str-clause-usage c word others are failed =
    let heads = sym (ap (map string_bytes) c.in-Some.ensures.cases.0) ∙ are in
    let named = c.as_str.ensures.value in
    let is : c.as_str.result.now ≡ word = cc in
    let other = c.in_default-as_str in
    let none : form_of some_names word ≡ None = rw (← is) (none_named some_names c.as_str.result.now other.not-value
    other.not-solve other.not-check other.not-table other.not-convert other.not-generate) in
    rejected some_names word others refl (rw none refl)
    (λ (form, named, found). cc)
