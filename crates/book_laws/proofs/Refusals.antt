-- Each refusal of a book exactly where it is due. Assumes nothing.
use Prim.Native.Nat.{ℕ}
use mathlib.Core.Path.{refl}
use mathlib.Core.List.{List}
use Rattle.base.proofs.FirstMet.{exact}
use Rattle.base.specs.FirstMet.{ExactFor}
use Rattle.book.specs.Book.{book_refusal, book_tests}

-- where its own test is met and none before it
pub book_exact : (book : List ℕ) (places : ℕ) → ExactFor (book_refusal book places) (book_tests book places)
unfolding book_refusal book_tests
book_exact book places = exact (book_tests book places) refl
