-- What the program has read and written, of a reader and a writer whose bytes may be known. In order: how much of a listing is written; the listing of
-- a text, written, or begun; and the same of what was read: what holds when the program ends well, and what an error leaves. Assumes nothing.
use Rattle.std.specs.Prelude.{◌≡◌, List, ◌++◌, ℕ, ◌≤◌, length, take, Option}
use Rattle.std.specs.Io.KnownBytes.{Keeps, Appends, Consumes, IsAtEnd}
use Rattle.texts.specs.document.Text.{Format}
use Rattle.listing_text.specs.document.Listing.{longest, Listing}

-- bytes of a listing that are written, at most. A line of a listing has less than 64 bytes, so that none has more than these; that is not proved
abbrev pub most : ℕ
most = 4194304

module _ {A F : Type 0} (format : Format A F) where
  -- what a writer held grew by the listing of the text t
  pub record Written (t : List ℕ) (held holds : Option (List ℕ)) : Type 0 where
    pub listing : List ℕ
    pub right : Listing format t listing
    pub grew : Appends held holds (take most listing)

  -- a text was taken from what a reader had, all of it where it is not too long, and its listing was written
  pub record Answered (had left held holds : Option (List ℕ)) : Type 0 where
    pub text : List ℕ
    pub taken : Consumes had left text
    pub whole : length text ≤ longest → IsAtEnd left
    pub written : Written text held holds

  -- what a writer held grew by what the listing of the text t begins with
  pub record Begun (t : List ℕ) (held holds : Option (List ℕ)) : Type 0 where
    pub listing : List ℕ
    pub right : Listing format t listing
    pub begins : List ℕ
    pub rest : List ℕ
    pub parts : listing ≡ begins ++ rest
    pub grew : Appends held holds begins

  -- a text was taken from what a reader had; nothing was written, where the reader failed; or, where the writer did, it is all of it where it is not too long, and a beginning
  -- of its listing was written
  pub data Stopped (had left held holds : Option (List ℕ)) : Type 0 where
    reading : (t : List ℕ) → Consumes had left t → Keeps held holds → Stopped had left held holds
    writing : (t : List ℕ) → Consumes had left t → (length t ≤ longest → IsAtEnd left) → Begun t held holds → Stopped had left held holds
