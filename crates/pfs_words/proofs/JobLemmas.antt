-- What a parse by a form gives to the functions that read a job's values.
use Rattle.std.proofs.Common.{◌≡◌, ◌∙◌, ◌⊎◌, ◌≤◌, ◌||◌, ℕ, true, false, ap, inl, inr, List, [], ◌∷◌}
use Rattle.std.proofs.Common.{Option, Some, Ok, Err, arith, refl, sym}
use Rattle.std.specs.Prelude.{IfSome, Result, slice_get}
use Rattle.std.specs.Borrow.{Bor}
use Rattle.std.specs.List.{list_any}
use Rattle.std.specs.Str.{bytes_eq}
use Rattle.std.proofs.lemmas.Slice.Eq.{bytes_eq-Decides}
use Rattle.std.proofs.lemmas.Bool.Decides.{nat_tests}
use Rattle.clap.specs.Words.{App, Rule, Text, app_of, fault_of, first_of, found_of, is_simple_and_free, matches_of}
use Rattle.clap.specs.Words.{rows_of, takes}
use Rattle.clap.specs.Faults.{is_free_app}
use Rattle.clap.specs.Simple.{built, is_simple}
use Rattle.clap.specs.Values.{IsUnsignedIn, same_text}
use Rattle.clap.specs.Walk.{texts}
use Rattle.clap.specs.declared.builder.command.Command.{Command}
use Rattle.clap.specs.declared.builder.value_parser.ValueParser.TheVariants as parser
use Rattle.clap.specs.declared.parser.matches.ArgMatches.{ArgMatches}
use Rattle.clap.proofs.WalkLemmas.{both, list_any-map}
use Rattle.pfs_words.specs.Commands.{AreLayoutNames, Names, form_of, layout_name, layout_rule}
use Rattle.pfs_words.specs.Jobs.{IsFaultlessLine, AsksFor, AsksForNothing, IsWithinLimits, SaysJob, SaysMaybeNumber}
use Rattle.pfs_words.specs.Jobs.{command_of, takes_line}
use Rattle.pfs_words.specs.Private.Parses.{HasLayout, HasNumber, HasTextAt, IsParseOf, MayHaveNumber, Plans}
use Rattle.pfs_words.specs.declared.job.Job.{Job}
use Rattle.pfs_words.specs.declared.usage.UsageFault.{UsageFault}
use Rattle.pfs_words.specs.declared.usage.UsageFault.TheVariants.{Usage}
use Rattle.pfs_layout.specs.declared.layout.Layout.TheVariants.{Taillard, OrLib}
use Rattle.pfs_words.proofs.FormLemmas.{asks_value, form_has_value, form_passes, has_place}

-- layout names at no real address
abbrev pub some_names : Names
some_names = record {
  ref_ptr = (0, 0);
  now = record { ref_ptr = (0, 0); now = layout_name Taillard } ∷ record { ref_ptr = (0, 0); now = layout_name OrLib }
      ∷ [];
}

-- ---- the two results

module _ (names : Names) (word : Text) (words : List Text) (are : AreLayoutNames names) where
  pub job_for : (job : Job) → word ≡ command_of job
      → (line : IsFaultlessLine names word words) → SaysJob (matches_of line.0 words) job → AsksFor word words job
  unfolding AsksFor
  job_for job same line says = (names, are, same, (line, says))

  pub rejected : takes_line names word words ≡ false → (IsFaultlessLine names word words → ⊥)
      → AsksForNothing word words
  unfolding AsksForNothing
  rejected denied faulty = (names, are, denied, faulty)

  -- the form of the command `word` doesn't take the arguments
  pub rejected_by_form : {form : App} → form_of names word ≡ Some form → takes form words ≡ false
      → (fault_of form words ≡ [] → ⊥) → AsksForNothing word words
  rejected_by_form {form} named denied faulty = rejected (rw named denied) (λ (app, is, none). faulty (cc))

  -- the same for the result of a failed parse by a command of that form
  pub fails : {app form : App} {fault : UsageFault} {parse : Result ArgMatches UsageFault}
      (result : Result Job UsageFault) → result ≡ Err fault → parse ≡ Err fault → app ≡ form
      → form_of names word ≡ Some form → is_simple_and_free form ≡ true → (parse ≡ Err Usage → takes app words ≡ false)
      → (parse ≡ Err Usage → is_simple_and_free app ≡ true → fault_of app words ≡ [] → ⊥) → Plans word words result
  fails (Ok job) failed parsed is named simple denied faulty = cc
  fails (Err fault) failed parsed is named simple denied faulty = record {
    job = tt;
    within = tt;
    usage = λ e. rejected_by_form named (cc (denied (cc))) (λ none. faulty (cc) (cc) (cc));
  }

-- ---- one argument

listed : (names : List (Bor Text)) (a b t : Text) → texts names ≡ a ∷ b ∷ []
    → list_any (λ name. same_text false name.now t) names ≡ true → (t ≡ a) ⊎ (t ≡ b)
listed names a b t are any =
    let among : list_any (λ name. bytes_eq name t) (texts names) ≡ true =
    sym (list_any-map (λ name. bytes_eq name t) (λ s. s.now) names) ∙ any in
    let one : (bytes_eq a t || (bytes_eq b t || false)) ≡ true = rw are at among in
    grind (arith, nat_tests, bytes_eq-Decides)

-- facts about the argument whose rule has index k in the form that `words` were parsed by
module _ {command : Command} {form : App} {words : List Text} {m : ArgMatches} (parse : IsParseOf command words m)
    (is : app_of command ≡ form) where
  pub text_given : (k : ℕ) {r : Rule} → slice_get form.top.rules k ≡ Some r → has_place form k r ≡ true
      → asks_value r ≡ true → HasTextAt m r.id
  text_given k {r} = form_has_value command m form k r is parse.facts

  pub layout_given : (k : ℕ) {id : Text} {names : Names} → slice_get form.top.rules k ≡ Some (layout_rule names id)
      → has_place form k (layout_rule names id) ≡ true → AreLayoutNames names → HasLayout m id
  layout_given k {id} {names} at place are =
      let rule = layout_rule names id in
      let (t, said) = text_given k at place refl in
      let passed = form_passes command m form k rule is parse.facts at place t said (parser.Names names) refl in
      elim (listed names.now (layout_name Taillard) (layout_name OrLib) t are passed) [
        | inl taillard ↦ (Taillard, said ∙ ap Some taillard)
        | inr orlib ↦ (OrLib, said ∙ ap Some orlib)
      ]

  module _ (k : ℕ) {r : Rule} {least most : ℕ} (at : slice_get form.top.rules k ≡ Some r)
      (parsed : r.parser ≡ Some (parser.Unsigned least most)) (place : has_place form k r ≡ true) where
    number_passes : (t : Text) → first_of r.id (rows_of (found_of m)) ≡ Some t → IsUnsignedIn least most t
    number_passes t said =
        form_passes command m form k r is parse.facts at place t said (parser.Unsigned least most) parsed

    pub number_if_given : MayHaveNumber m r.id
    number_if_given t said =
        let (digits, fits, low, high) = number_passes t said in (digits, fits, omega arith, omega arith)

    pub number_given : asks_value r ≡ true → HasNumber m r.id
    number_given asks =
        let (t, said) = text_given k at place asks in
        (t, said, number_if_given t said)

    pub number_in_range : {o : Option ℕ} → SaysMaybeNumber (rows_of (found_of m)) r.id o
        → IfSome o (λ n. (least ≤ n) × (n ≤ most))
    number_in_range says =
        let within = number_passes in rw (← says) (grind arith)

  -- a job whose values the parse has is what the command line asks for
  pub planned : (names : Names) (word : Text) → AreLayoutNames names → form_of names word ≡ Some form
      → is_simple_and_free form ≡ true → (job : Job) → word ≡ command_of job → SaysJob (rows_of (found_of m)) job
      → IsWithinLimits job → Plans word words (Ok job)
  unfolding AsksFor
  planned names word are named simple job same says within =
      let faultless : fault_of form words ≡ [] = cc (parse.faultless (cc)) in
      let (simple_form, free) = both (is_simple form) (is_free_app (built form)) simple in
      let rows : rows_of (found_of m) ≡ matches_of form words = cc ((parse.rows (cc)).0) in record {
        job = (names, are, same, ((form, named, faultless), rw rows at says));
        within = within;
        usage = λ bad. cc;
      }
