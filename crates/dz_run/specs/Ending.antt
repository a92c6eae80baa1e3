-- How a run ends: its status, and its message.
use Rattle.std.specs.Prelude.{ℕ, List, [], ◌++◌, codes, ⊤}
use Rattle.std.specs.Fmt.{decimal}
use Rattle.dz_cert.specs.declared.reading.CertFault.{CertFault}
use Rattle.dz_cert.specs.declared.reading.CertFault.TheVariants as faults
use Rattle.dz_syntax.specs.Faults.{text_of}
use Rattle.dz_run.specs.declared.ending.Ending.{Ending}
use Rattle.dz_run.specs.declared.ending.Ending.TheVariants.{Done, Rejected, NotWritten, Syntax, Document, Wide, Spent, Large, ReadFault, WriteFault, WriteStuck, NoMemory, Point, TooLong}

-- the status with which the program ends
abbrev pub status_of : Ending → ℕ
status_of Done = 0
status_of Rejected = 1
status_of NotWritten = 2
status_of (Syntax fault) = 3
status_of (Document fault) = 3
status_of Wide = 4
status_of Spent = 5
status_of Large = 6
status_of ReadFault = 7
status_of WriteFault = 8
status_of WriteStuck = 8
status_of NoMemory = 9
status_of Point = 10
status_of TooLong = 11

-- the line for the first fault of a document
abbrev pub document_message : CertFault → List ℕ
document_message faults.Memory = codes "blad: no memory\n"
document_message (faults.BadLine n) = codes "blad: document: line " ++ decimal n ++ codes "\n"
document_message faults.EndsEarly = codes "blad: document: ends early\n"
document_message faults.BytesAfter = codes "blad: document: bytes after the end\n"

-- The line on the error output, or nothing. That of a point that is refused is the answer's own.
abbrev pub message_of : Ending → List ℕ → List ℕ
message_of Done point = []
message_of Rejected point = []
message_of NotWritten point = codes "blad: the words are no written form\n"
message_of (Syntax fault) point = codes "blad: syntax: byte " ++ decimal fault.place ++ codes ": " ++ text_of fault.kind ++ codes "\n"
message_of (Document fault) point = document_message fault
message_of Wide point = codes "blad: wide\n"
message_of Spent point = codes "blad: budget spent\n"
message_of Large point = codes "blad: large\n"
message_of ReadFault point = codes "blad: read fault\n"
message_of WriteFault point = codes "blad: write fault\n"
message_of WriteStuck point = codes "blad: write stuck\n"
message_of NoMemory point = codes "blad: no memory\n"
message_of Point point = point
message_of TooLong point = codes "blad: input too long\n"

-- an ending at which nothing was to be written on the output
abbrev pub IsSilent : Ending → Type 0
IsSilent Done = ⊥
IsSilent Rejected = ⊥
IsSilent Wide = ⊥
IsSilent Spent = ⊥
IsSilent Large = ⊥
IsSilent WriteFault = ⊥
IsSilent WriteStuck = ⊥
IsSilent Point = ⊥
IsSilent ending = ⊤

-- its message tells a fault
abbrev pub HasFault : Ending → Type 0
HasFault (Syntax fault) = ⊤
HasFault (Document fault) = ⊤
HasFault Point = ⊤
HasFault ending = ⊥

-- its message tells a line
abbrev pub IsBadLine : CertFault → Type 0
IsBadLine (faults.BadLine n) = ⊤
IsBadLine fault = ⊥
