use Rattle.std.proofs.Common.{◌≡◌, ℕ, ◌++◌, List, [], ◌∷◌, length, take as front, refl, ap, subst, ◌∙◌, arith}
use Rattle.std.proofs.lemmas.List.{length-append}
use Rattle.pfs_order.specs.Sequence.{IsSequence, Sequence}
use Rattle.pfs_order.proofs.Published.Sequences.{IsSequence-rest, length-le-size}
use Rattle.pfs_iterate.specs.Alone.{by_ties, with_more}
use Rattle.pfs_iterate.proofs.Shorter.{settled_shorter}
use Rattle.pfs_iterate.proofs.iterated.Iterated.build.Goals as goal

rest_is : (size : ℕ) (more jobs : List ℕ) → IsSequence size (more ++ jobs) → IsSequence size jobs
rest_is size [] jobs together = together
rest_is size (job ∷ more) jobs together = rest_is size more jobs (IsSequence-rest size job (more ++ jobs) together)

pub set-requires : goal.set-requires
set-requires c =
    rw c.requires.own.work.size
    (rest_is c.args.instance.now.shop.jobs c.args.more.now (front c.args.count c.args.order.now) c.requires.together)

pub copy_jobs-requires : goal.copy_jobs-requires
copy_jobs-requires c =
    let more = c.args.more.now in
    let start = front c.args.count c.args.order.now in
    omega (
      arith,
      length-le-size c.args.instance.now.shop.jobs (more ++ start) c.requires.together,
      length-append more start,
      c.requires.own.lists.removed,
    )

pub returns-clause-built : goal.returns-clause-built
returns-clause-built c =
    let shop = c.args.instance.now.shop in
    let more = c.args.more.now in
    let list = c.args.list.now in
    let start = front c.args.count c.args.order.now in
    let options = c.by_ties-options.ensures in
    let made = c.insert_all-start.new.work.seq in
    let found = c.improve-span.new.work.seq in
    let begun : c.set.new.self.jobs ≡ start = ap (λ (s : Sequence). s.jobs) c.set.ensures in
    let removed : c.as_slice.result.now ≡ more = c.as_slice.ensures.value ∙ c.copy_jobs.ensures.items in
    let inserted : made.jobs ≡ with_more shop c.args.ties start more =
    rw (c.insert_all-start.ensures.jobs, begun, removed, options) refl in
    let copied : c.copy_from_slice.new.self ≡ found.jobs = c.copy_from_slice.ensures.after ∙ c.as_slice-2.ensures.value in
    let made_size = c.insert_all-start.ensures.work.still.size in
    let sequence = subst (λ (n : ℕ). IsSequence n made.jobs) made_size c.size-size.ensures.sequence in
    let sequence_found : IsSequence shop.jobs found.jobs =
    subst (λ (n : ℕ). IsSequence n found.jobs) (c.improve-span.ensures.same.size ∙ made_size) c.as_slice-2.ensures.sequence in
    rw copied (record {
      found = rw (c.improve-span.ensures.jobs, options, inserted) refl;
      long = omega (
        arith,
        c.improve-span.ensures.same.count,
        c.insert_all-start.ensures.count,
        ap length begun,
        ap length removed,
      );
      distinct = sequence_found;
      spanned = c.improve-span.ensures.span;
      no_longer = rw (← inserted, c.improve-span.ensures.span, c.improve-span.ensures.jobs, options)
          (settled_shorter shop (by_ties c.args.ties) list c.args.passes made.jobs sequence);
    })
