mod Lending
mod Listed
mod Numbered
