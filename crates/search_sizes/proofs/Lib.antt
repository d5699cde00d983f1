pub mod SizeEntries
