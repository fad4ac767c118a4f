-- What was read of an input, and what the result says of the whole input.
use Rattle.std.proofs.Common.{◌≡◌, ◌≢◌, ℕ, ◌+◌, ◌≤◌, List, ◌++◌, length, take, Option, Some, None, refl, ap, subst}
use Rattle.std.proofs.Common.{Bool, true, arith, inl, inr}
use Rattle.std.specs.Prelude.{IfSome, IfOk, IfErr, OnOk, Result, Ok, Err}
use Rattle.std.specs.Io.KnownBytes.{Consumes, IsAtEnd}
use Rattle.std.specs.Result.{result_err}
use Rattle.std.proofs.KnownBytes.{Consumes-trans, Consumes-whole}
use Rattle.std.proofs.lemmas.List.{append-nil, length-append, length-take-le, take-append-le}
use Rattle.std.proofs.Math.Seq.{take-append-add}
use borrow.Rule.Slice.PartMut.{put_mid, post_of}
use Rattle.std.proofs.lemmas.Option.{IfSome_then}
use Rattle.pfs_base.specs.declared.limits.TheConstants.{LONGEST_ORDER_FILE}
use Rattle.pfs_order.specs.declared.fault.OrderFault.{OrderFault}
use Rattle.pfs_order.specs.declared.fault.OrderFault.TheVariants.{TooLong, Read, Memory}
use Rattle.pfs_order.specs.Sequence.{StatedOrder}
use Rattle.pfs_order.specs.OrderFile.{IsOrderFile, IsText, RejectsOrder, RejectsUnlessFailed, IsUnlessFailed}
use Rattle.pfs_order.specs.OrderFile.{ReadsOrderAsFar}
use Rattle.pfs_order.specs.Private.Reading.{FillsBelow, ValidatesText}
use Rattle.pfs_order.proofs.Published.OrderVerdicts.{one_rejection, not_both, one_file, OrderVerdict, text_verdict}

-- ---- bytes that are read into a part of a buffer

-- the bytes before a part, and some of those that were written into it
take_put : (a k n : ℕ) (xs ys : List ℕ) → a ≤ length xs → n ≤ length ys
    → take (a + n) (put_mid a k xs ys) ≡ take a xs ++ take n ys
take_put a k n xs ys h l =
    let front = take-append-add (take a xs) (ys ++ post_of a k xs) n in
    rw (length-take-le a xs h, take-append-le n ys (post_of a k xs) l) at front

-- some bytes were read after others
pub read_more : (old mid new : Option (List ℕ)) (a k n : ℕ) (xs ys : List ℕ) → a ≤ length xs → n ≤ length ys
    → Consumes old mid (take a xs) → Consumes mid new (take n ys) → Consumes old new (take (a + n) (put_mid a k xs ys))
read_more old mid new a k n xs ys h l p q =
    rw (take_put a k n xs ys h l) (Consumes-trans old mid new (take a xs) (take n ys) p q)

-- the buffer has room for them
pub read_within : (a k n : ℕ) (xs ys : List ℕ) → a ≤ length xs → n ≤ length ys → a + n ≤ length (put_mid a k xs ys)
read_within a k n xs ys h l =
    let rest : List ℕ = post_of a k xs in
    omega (arith, length-take-le a xs h, length-append (take a xs) (ys ++ rest), length-append ys rest)

-- a property of the bytes that were read with any rest after them is a property of a known input
holds_of_known_input : (old new : Option (List ℕ)) (bytes : List ℕ) (P : List ℕ → Type 0) → Consumes old new bytes
    → ((rest : List ℕ) → new ≡ Some rest → P (bytes ++ rest)) → IfSome old P
holds_of_known_input None new bytes P c h = tt
holds_of_known_input (Some input) None bytes P c h = absurd c
holds_of_known_input (Some input) (Some rest) bytes P c h = rw c (h rest refl)

-- ---- what is reported of an input

-- what was read, and the result for it
pub data Reported (old new : Option (List ℕ)) (returned : Result StatedOrder OrderFault) : Type 0 where
  whole : (bytes : List ℕ) → Consumes old new bytes → IsAtEnd new → length bytes ≤ LONGEST_ORDER_FILE
      → ValidatesText bytes returned → Reported old new returned
  long : (bytes : List ℕ) → Consumes old new bytes → length bytes ≡ LONGEST_ORDER_FILE + 1 → returned ≡ Err TooLong
      → Reported old new returned
  stopped : FillsBelow (LONGEST_ORDER_FILE + 1) old new → returned ≡ Err Read → Reported old new returned

-- what a result says of the input
abbrev Says : Result StatedOrder OrderFault → List ℕ → Type 0
Says (Ok file) input = IsOrderFile input file
Says (Err fault) input = RejectsUnlessFailed input fault

validated_says : (bytes : List ℕ) (returned : Result StatedOrder OrderFault) → length bytes ≤ LONGEST_ORDER_FILE
    → ValidatesText bytes returned → Says returned bytes
validated_says bytes (Ok file) few e = subst (OrderVerdict bytes) e (text_verdict bytes few)
validated_says bytes (Err fault) few (inl (memory, h)) = rw memory tt
validated_says bytes (Err fault) few (inr e) = of fault (subst (OrderVerdict bytes) e (text_verdict bytes few))
  where
    of : (known : OrderFault) → RejectsOrder bytes known → RejectsUnlessFailed bytes known
    of Read h = tt
    of Memory h = tt
    of fault h = h

module _ {old new : Option (List ℕ)} {returned : Result StatedOrder OrderFault} where
  says : Reported old new returned → IfSome old (Says returned)
  says (whole bytes c end few j) = Consumes-whole old new bytes (Says returned) c end
      (validated_says bytes returned few j)
  says (long bytes c size is) = holds_of_known_input old new bytes (Says returned) c
      (λ rest _. rw is (omega (arith, length-append bytes rest)))
  says (stopped (bytes, (few, c)) is) = holds_of_known_input old new bytes (Says returned) c (λ rest _. rw is tt)

accepted : {old new : Option (List ℕ)} (returned : Result StatedOrder OrderFault) → Reported old new returned
    → IfOk returned (λ file. IfSome old (λ input. IsOrderFile input file))
accepted (Ok file) known = says known
accepted (Err fault) known = tt

rejected : {old new : Option (List ℕ)} (returned : Result StatedOrder OrderFault) → Reported old new returned
    → IfErr returned (λ fault. IfSome old (λ input. RejectsUnlessFailed input fault))
rejected (Ok file) known = tt
rejected (Err fault) known = says known

-- only one result is right for an input
one_returned : (input : List ℕ) (returned right : Result StatedOrder OrderFault) → Says returned input
    → OrderVerdict input right
    → IsUnlessFailed returned right
one_returned input (Ok file) (Ok other) h k = inl (ap Ok (one_file input file other h k))
one_returned input (Ok file) (Err fault) h k = absurd (not_both input file fault h k)
one_returned input (Err Read) right h k = inr (inl refl)
one_returned input (Err Memory) right h k = inr (inr refl)
one_returned input (Err fault) (Ok file) h k = absurd (not_both input file fault k h)
one_returned input (Err fault) (Err other) h k = inl (ap Err (one_rejection input fault other h k))

ended : {old new : Option (List ℕ)} (returned : Result StatedOrder OrderFault) → Reported old new returned
    → OnOk returned (IsAtEnd new)
ended (Ok file) (whole bytes c end few j) = end
ended (Ok file) (long bytes c size is) = absurd (cc)
ended (Ok file) (stopped f is) = absurd (cc)
ended (Err fault) known = tt

-- how far a known input was read, if this prefix of it was read
reads_front : (old new : Option (List ℕ)) (fault : Option OrderFault) (front : List ℕ) → Consumes old new front
    → length front ≤ LONGEST_ORDER_FILE + 1 → (fault ≡ Some Read → length front ≤ LONGEST_ORDER_FILE)
    → (fault ≡ Some TooLong → length front ≡ LONGEST_ORDER_FILE + 1)
    → (fault ≢ Some Read → fault ≢ Some TooLong → IsAtEnd new) → (fault ≡ Some Memory → IsAtEnd new × IsText front)
    → IfSome old (λ input. ReadsOrderAsFar input new fault)
reads_front old new fault front c few failed too_long end memory =
    holds_of_known_input old new front (λ input. ReadsOrderAsFar input new fault) c (λ rest left. record {
      front = front;
      rest = rest;
      whole = refl;
      leaves = left;
      few = few;
      failed = failed;
      too_long = too_long;
      ended = λ one other. rw left at (end one other);
      memory = λ is. rw (rw left at (memory is).0, append-nil) (memory is).1;
    })

reads : {old new : Option (List ℕ)} (returned : Result StatedOrder OrderFault) → Reported old new returned
    → IfSome old (λ input. ReadsOrderAsFar input new (result_err returned))
reads returned (stopped (front, (few, c)) is) =
    reads_front _ _ (result_err returned) front c (omega arith) (λ _. omega arith) (λ known. absurd (cc))
    (λ other. absurd (other (ap result_err is))) (λ none. absurd (cc))
reads returned (long bytes c size is) =
    reads_front _ _ (result_err returned) bytes c (omega arith) (λ failed. absurd (cc)) (λ _. size)
    (λ _ other. absurd (other (ap result_err is))) (λ none. absurd (cc))
reads returned (whole bytes c end few j) =
    reads_front _ _ (result_err returned) bytes c (omega arith) (λ _. few)
    (λ known. absurd (never_long returned j known)) (λ _ _. end) (λ memory. (end, of_memory returned j memory))
  where
    never_long : (read : Result StatedOrder OrderFault) → ValidatesText bytes read → result_err read ≢ Some TooLong
    never_long (Ok file) k is = cc
    never_long (Err fault) (inl (memory, h)) is = absurd (cc)
    never_long (Err TooLong) (inr e) is =
        let long = subst (OrderVerdict bytes) e (text_verdict bytes few) in absurd (omega arith)
    never_long (Err fault) (inr e) is = absurd (cc)

    of_memory : (read : Result StatedOrder OrderFault) → ValidatesText bytes read → result_err read ≡ Some Memory
        → IsText bytes
    of_memory (Ok file) k is = absurd (cc)
    of_memory (Err fault) (inl (memory, h)) is = h
    of_memory (Err Memory) (inr e) is = absurd (subst (OrderVerdict bytes) e (text_verdict bytes few))
    of_memory (Err fault) (inr e) is = absurd (cc)

pub never_read : (bytes : List ℕ) (returned : Result StatedOrder OrderFault) → length bytes ≤ LONGEST_ORDER_FILE
    → ValidatesText bytes returned → returned ≢ Err Read
never_read bytes (Ok file) few j is = absurd (cc)
never_read bytes (Err fault) few (inl (memory, h)) is = absurd (cc)
never_read bytes (Err Read) few (inr e) is = subst (OrderVerdict bytes) e (text_verdict bytes few)
never_read bytes (Err fault) few (inr e) is = absurd (cc)

-- the contract's clauses of `read_order`, if a failed read is reported exactly when the device has failed
pub owed : {old new : Option (List ℕ)} {broken late late' : Bool} (returned : Result StatedOrder OrderFault)
    → Reported old new returned → (returned ≡ Err Read → broken ≡ true) → (broken ≡ true → returned ≡ Err Read)
    → (returned ≡ Err Read → late' ≡ late) → record {
      accepted : IfOk returned (λ file. IfSome old (λ input. IsOrderFile input file));
      rejected : IfErr returned (λ fault. IfSome old (λ input. RejectsUnlessFailed input fault));
      accepts : IfSome old (λ input. (file : StatedOrder) → IsOrderFile input file → IsUnlessFailed returned (Ok file));
      rejects : IfSome old (λ input. (fault : OrderFault) → RejectsOrder input fault
          → IsUnlessFailed returned (Err fault));
      ended : OnOk returned (IsAtEnd new);
      reads : IfSome old (λ input. ReadsOrderAsFar input new (result_err returned));
      failed : returned ≡ Err Read → broken ≡ true;
      working : broken ≡ true → returned ≡ Err Read;
      before_end : returned ≡ Err Read → late' ≡ late;
    }
owed {old} returned known failed working before_end = record {
  accepted = accepted returned known;
  rejected = rejected returned known;
  accepts = IfSome_then old (says known) (λ input h file. one_returned input returned (Ok file) h);
  rejects = IfSome_then old (says known) (λ input h fault. one_returned input returned (Err fault) h);
  ended = ended returned known;
  reads = reads returned known;
  failed = failed;
  working = working;
  before_end = before_end;
}
