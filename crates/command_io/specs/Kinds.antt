-- What a command may read, by what stands at a file's name, whether it may be read, and which of the standard streams go into it.
-- Assumes nothing.
use Rattle.std.specs.Prelude.{false, cond}
use Rattle.command_io.specs.declared.kinds.Access.{Access}
use Rattle.command_io.specs.declared.kinds.Access.TheVariants as A
use Rattle.command_io.specs.declared.kinds.Kind.{Kind}
use Rattle.command_io.specs.declared.kinds.Stands.{Stands}
use Rattle.command_io.specs.declared.kinds.Stands.TheVariants as S

-- nothing stands there
abbrev pub nothing : Kind
nothing = record { stands = S.Missing; closed = false; printed = false; told = false; guarded = false }

-- nothing into which standard error or standard output goes
abbrev pub apart_of : Kind → Access
apart_of kind = cond kind.told A.Quiet (cond kind.printed A.Printed A.Free)

-- the same of what stands there: nothing, a link to nothing, and a folder are not read
abbrev pub readable_at : Stands → Access → Access
readable_at S.Missing access = A.Missing
readable_at S.Dangling access = A.Missing
readable_at S.Folder access = A.Folder
readable_at S.Plain access = access
readable_at S.Other access = access

-- nothing there, a link to nothing, a folder, and what may not be read are not read
abbrev pub readable_of : Kind → Access
readable_of kind = readable_at kind.stands (cond kind.closed A.Unreadable (apart_of kind))
