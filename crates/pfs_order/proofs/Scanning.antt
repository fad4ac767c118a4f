-- What is read of a text is what its grammar says, part by part.
use Rattle.std.proofs.Common.{◌≡◌, ℕ, List, [], ◌∷◌, ◌++◌, refl, ap, subst, inl, inr}
use Rattle.std.specs.Prelude.{Ok, Err}
use Rattle.std.proofs.lemmas.Bool.{cases_eq, eq-eqb, ne_eqb}
use Rattle.std.proofs.lemmas.List.{append_assoc, append-nil}
use Rattle.pfs_order.specs.Private.Reading.{Scan, ◌>>=◌, yields, byte_at, word_at}

-- the same first byte, if any, followed by other bytes
abbrev pub with_tail : List ℕ → List ℕ → List ℕ
with_tail [] more = []
with_tail (b ∷ text) more = b ∷ more

-- the bytes themselves are of this form
pub with_tail-same : (after : List ℕ) → (more : List ℕ) × (with_tail after more ≡ after)
with_tail-same [] = ([], refl)
with_tail-same (b ∷ after) = (after, refl)

-- which value has which spelling
abbrev pub Spelling : Type 0 → Type 1
Spelling A = A → List ℕ → Type 0

-- the value is read from this spelling of it, with any bytes after it
pub record Finds {A : Type 0} (L : Spelling A) (scan : Scan A) (a : A) (text : List ℕ) : Type 0 where
  pub spelled : L a text
  pub read : (other : List ℕ) → scan (text ++ other) ≡ Ok (a, other)

-- what a text begins with: a spelling; or a prefix of some spelling, while no spelling continues it with the next byte
pub data ScanVerdict {A : Type 0} (L : Spelling A) (scan : Scan A) (text : List ℕ) : Type 0 where
  found : (a : A) (front rest : List ℕ) → text ≡ front ++ rest → Finds L scan a front → ScanVerdict L scan text
  stuck : (a : A) (front more after : List ℕ) → text ≡ front ++ after → Finds L scan a (front ++ more)
      → ((other : List ℕ) → scan (front ++ with_tail after other) ≡ Err (with_tail after other))
      → ScanVerdict L scan text

-- what is read is the spelling at the start of the text, and at least one spelling exists
pub record Scans {A : Type 0} (L : Spelling A) (scan : Scan A) : Type 0 where
  pub some : (a : A) × ((text : List ℕ) × Finds L scan a text)
  pub verdict : (text : List ℕ) → ScanVerdict L scan text

-- one part, and then another, whose spellings are joined
module _ {A B : Type 0} {L : Spelling A} {M : A → Spelling B} {N : Spelling B} {scan : Scan A} {next : A → Scan B}
    (h : Scans L scan) (k : (a : A) → Scans (M a) (next a))
    (join : (a : A) (b : B) (s t : List ℕ) → L a s → M a b t → N b (s ++ t)) where
  then_finds : (a : A) (b : B) (s t : List ℕ) → Finds L scan a s → Finds (M a) (next a) b t
      → Finds N (scan >>= next) b (s ++ t)
  then_finds a b s t l m = record {
    spelled = join a b s t l.spelled m.spelled;
    read = λ other. rw (append_assoc, l.read (t ++ other), m.read other) refl;
  }

  then_verdict : (text : List ℕ) → ScanVerdict N (scan >>= next) text
  then_verdict text = elim (h.verdict text) [
    | stuck a front more after whole l stops ↦
        let (b, (t, m)) = (k a).some in
        stuck b front (more ++ t) after whole (rw append_assoc at (then_finds a b (front ++ more) t l m))
        (λ other. rw (stops other) refl)
    | found a s rest whole l ↦ elim ((k a).verdict rest) [
      | found b t rest e m ↦ found b (s ++ t) rest (rw (whole, e, append_assoc) refl) (then_finds a b s t l m)
      | stuck b t more after e m stops ↦
          stuck b (s ++ t) more after (rw (whole, e, append_assoc) refl)
          (rw append_assoc (then_finds a b s (t ++ more) l m))
          (λ other. rw (append_assoc, l.read (t ++ with_tail after other), stops other) refl)
    ]
  ]

  pub then_reads : Scans N (scan >>= next)
  then_reads =
      let (a, (s, l)) = h.some in
      let (b, (t, m)) = (k a).some in
      record { some = (b, (s ++ t, then_finds a b s t l m)); verdict = then_verdict }

-- nothing is read of the text, and the value is that of no bytes
pub none_reads : {A : Type 0} {L : Spelling A} (value : A) → L value [] → Scans L (yields value)
none_reads {A} {L} value l =
    let here : Finds L (yields value) value [] = record { spelled = l; read = λ other. refl } in
    record { some = (value, ([], here)); verdict = λ text. found value [] text refl here }

-- the spellings of the second part are those that give one of the whole after every spelling of the first
pub then_joined : {A B : Type 0} {L : Spelling A} {N : Spelling B} {scan : Scan A} {next : A → Scan B} → Scans L scan
    → ((a : A) → Scans (λ b t. (s : List ℕ) → L a s → N b (s ++ t)) (next a)) → Scans N (scan >>= next)
then_joined h k = then_reads h k (λ a b s t l m. m s l)

-- a value computed from what is read
pub map_reads : {A B : Type 0} {L : Spelling A} {N : Spelling B} {scan : Scan A} (value : A → B) → Scans L scan
    → ((a : A) (text : List ℕ) → L a text → N (value a) text) → Scans N (scan >>= λ a. yields (value a))
map_reads value h to = then_joined h (λ a. none_reads (value a) (λ s l. rw append-nil (to a s l)))

pub same_read : {A : Type 0} (one other : A × List ℕ) (scan : Scan A) (text : List ℕ) → scan text ≡ Ok one
    → scan text ≡ Ok other → one ≡ other
same_read one other scan text e f = cc

-- what is read to the end of a text is spelled by the text
pub spells_read : {A : Type 0} {L : Spelling A} {scan : Scan A} → Scans L scan → (text : List ℕ) (a : A)
    → scan text ≡ Ok (a, []) → L a text
spells_read {A} {L} {scan} h text a e = elim (h.verdict text) [
  | found b front rest whole l ↦
      let same = same_read (b, rest) (a, []) scan text (rw whole (l.read rest)) e in
      rw (whole, ap (λ r. r.1) same, append-nil) (subst (λ (c : A). L c front) (ap (λ r. r.0) same) l.spelled)
  | stuck b front more after whole l stops ↦
      let (other, same) = with_tail-same after in
      let no : scan (front ++ after) ≡ Err after = rw same at (stops other) in absurd (cc)
]

-- ---- words

abbrev pub IsWord : List ℕ → Spelling (Unit {0})
IsWord word _ text = text ≡ word

byte_reads : (c : ℕ) → Scans (IsWord (c ∷ [])) (byte_at c)
unfolding byte_at
byte_reads c = record { some = (tt, (c ∷ [], here)); verdict = verdict }
  where
    here : Finds (IsWord (c ∷ [])) (byte_at c) tt (c ∷ [])
    here = record { spelled = refl; read = λ other. rw (eq-eqb c c refl) refl }

    verdict : (text : List ℕ) → ScanVerdict (IsWord (c ∷ [])) (byte_at c) text
    verdict [] = stuck tt [] (c ∷ []) [] refl here (λ other. refl)
    verdict (b ∷ text) = elim (cases_eq b c) [
      | inl same ↦ found tt (c ∷ []) text (rw same refl) here
      | inr other ↦ stuck tt [] (c ∷ []) (b ∷ text) refl here (λ more. rw (ne_eqb b c other) refl)
    ]

pub word_reads : (word : List ℕ) → Scans (IsWord word) (word_at word)
unfolding word_at
word_reads [] = none_reads tt refl
word_reads (c ∷ word) = then_reads (byte_reads c) (λ _. word_reads word) (λ a b s t w v. rw (w, v) refl)
