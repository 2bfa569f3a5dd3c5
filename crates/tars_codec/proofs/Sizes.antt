-- How many bytes a number takes.
use Rattle.std.proofs.Common.{◌≡◌, ℕ, ◌+◌, length, arith, length-append}
use Rattle.wire_words.specs.Tree.{WireNumber, zero_tag, int1, int2, int4, int8}
use Rattle.wire_words.specs.Spelling.{head, spelled_number, two_complement}
use Rattle.tars_decode.specs.Reads.{bytes_of}

pub number_size : (tag : ℕ) (n : WireNumber) (size : ℕ) → ((code : ℕ) → size ≡ length (head tag code)) → length (spelled_number tag n) ≡ size + bytes_of n
unfolding spelled_number two_complement
number_size tag zero_tag size is = omega (arith, is 12)
number_size tag (int1 n) size is = simp length-append (omega (arith, is 0))
number_size tag (int2 n) size is = simp length-append (omega (arith, is 1))
number_size tag (int4 n) size is = simp length-append (omega (arith, is 2))
number_size tag (int8 n) size is = simp length-append (omega (arith, is 3))
